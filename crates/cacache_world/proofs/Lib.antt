pub mod Turning
pub mod Worlds
pub mod MayBegin
pub mod Played
pub mod NamesOfPaths
pub mod Files
