pub mod Kinds
pub mod Value
pub mod Acts
pub mod Placed
pub mod Shows
pub mod ValueLaws
pub mod SingleCases
