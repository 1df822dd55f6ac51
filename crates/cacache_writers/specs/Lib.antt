pub mod Alone
pub mod Opening
pub mod Sharing
pub mod Turning
pub mod Writing
