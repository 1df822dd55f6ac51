pub mod Lookups
pub mod Reads
pub mod Exports
pub mod Layers
pub mod content
pub mod put
