pub mod OpenReads
pub mod OpenWrites
