pub mod IndexParts
pub mod FoundBuckets
pub mod IndexWalks
pub mod ParentTexts
pub mod FoundFolders
pub mod ListedEntries
