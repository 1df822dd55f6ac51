pub mod QuietMoves
pub mod Behind
pub mod Outlasting
