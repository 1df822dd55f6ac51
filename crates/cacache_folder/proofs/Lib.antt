pub mod FolderNames
pub mod CallRuns
pub mod Listings
pub mod Entries
pub mod ListedFolders
pub mod Making
pub mod Answering
pub mod Reading
mod Ghost
pub mod StepsMade
