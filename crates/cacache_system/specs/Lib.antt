pub mod Seen
pub mod CallsOf
pub mod AnswersOf
