pub mod Spelled
pub mod AddedEntries
pub mod Owned
pub mod Bucketed
pub mod Writes
pub mod Lookups
