pub mod Polled
pub mod Shown
