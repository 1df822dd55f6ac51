pub mod File
pub mod Moments
pub mod Calls
pub mod Names
pub mod Steps
pub mod Cases
