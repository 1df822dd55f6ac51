pub mod Linking
pub mod TargetBytes
pub mod ExpectedSizes
pub mod OpenLinkers
pub mod RefusedSizes
