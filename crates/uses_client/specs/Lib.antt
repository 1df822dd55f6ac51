pub mod Packages
pub mod Writing
pub mod Given
