pub mod Checking
pub mod PhaseEffort
pub mod Running
pub mod Refusing
pub mod WrittenCommits
