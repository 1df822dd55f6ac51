pub mod WalkStates
pub mod Reading
pub mod Addresses
pub mod Listing
pub mod Iterating
