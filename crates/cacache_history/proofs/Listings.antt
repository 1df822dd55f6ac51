pub mod ToldFolders
pub mod ListingWalks
pub mod Once
pub mod ListedOnce
pub mod ListingTurns
