pub mod Rests
pub mod StepAnswers
pub mod Writes
