pub mod ListedTurns
pub mod ListedKeys
