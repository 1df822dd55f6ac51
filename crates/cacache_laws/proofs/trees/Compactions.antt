pub mod CompactLines
pub mod CompactTwice
pub mod CompactAnswers
pub mod CompactTexts
pub mod LeanTrees
pub mod LeanReads
