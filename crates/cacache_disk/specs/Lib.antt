pub mod Tree
pub mod LedTo
pub mod Apply
pub mod Plans
pub mod Deepest
pub mod AllStanding
pub mod memory
pub mod Replay
