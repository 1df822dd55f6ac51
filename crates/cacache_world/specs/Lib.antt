pub mod Turned
pub mod WorldKept
pub mod Faults
pub mod Played
