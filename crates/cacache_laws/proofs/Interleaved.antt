pub mod SparedContents
pub mod KeptContents
pub mod KeptPuts
