pub mod BucketItems
pub mod Walks
mod Sorting
mod Stopping
mod Stumbling
mod TakenApart
mod VisitSteps
mod VisitAnswers
mod Filling
