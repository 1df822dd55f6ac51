pub mod JobStates
pub mod LeadsOn
pub mod Environment
pub mod Jobs
pub mod Effort
pub mod ReadFirst
pub mod IntoBuckets
