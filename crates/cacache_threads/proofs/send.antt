pub mod Values
pub mod Commands
pub mod Walks
pub mod History
pub mod Jobs
