pub mod ReadAnswers
pub mod Known
pub mod Looks
pub mod GivenReads
pub mod OpenReaders
pub mod Standing
