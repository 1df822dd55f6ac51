pub mod Judged
pub mod InTurn
pub mod Tombs
pub mod Shown
pub mod Buried
pub mod Whole
pub mod Houses
