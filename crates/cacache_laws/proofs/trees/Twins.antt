pub mod Agreeing
pub mod Twice
pub mod Fully
pub mod Cleared
pub mod Follows
