pub mod Holding
pub mod Values
pub mod ShownTurns
pub mod TurnReplies
pub mod ReadingCalls
pub mod Places
pub mod PlacedAnswers
pub mod LegalCases
