pub mod Lookups
mod Asking
mod Exports
mod Linkers
