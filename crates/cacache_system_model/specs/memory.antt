pub mod Noted
pub mod Stopping
pub mod Changes
pub mod Files
pub mod Machines
pub mod Runs
