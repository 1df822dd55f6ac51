pub mod Entry
pub mod Tokens
pub mod EntryTexts
pub mod FittingEntries
pub mod Bucket
pub mod View
pub mod EntryLaws
