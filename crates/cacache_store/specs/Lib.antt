pub mod Outside
pub mod Plain
