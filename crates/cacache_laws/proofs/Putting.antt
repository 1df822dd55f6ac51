pub mod Persisting
pub mod Stored
pub mod Deeds
pub mod OpenWriters
pub mod Puts
pub mod WrittenFiles
pub mod StandingPuts
