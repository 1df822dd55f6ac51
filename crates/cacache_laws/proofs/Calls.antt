pub mod Replays
pub mod Sequence
pub mod CallErrors
pub mod InParts
