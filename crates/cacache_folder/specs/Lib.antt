pub mod FolderHandles
pub mod FolderNumbers
pub mod Goings
pub mod HandleRuns
pub mod Moves
pub mod Listings
pub mod StepClauses
pub mod StepsMade
