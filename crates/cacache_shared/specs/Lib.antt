pub mod Answered
pub mod Lines
pub mod Seats
pub mod Storms
