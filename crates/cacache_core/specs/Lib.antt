pub mod Integrity
pub mod Texts
pub mod Paths
pub mod Hashers
pub mod Comparing
pub mod Errors
pub mod Matching
pub mod Laws
