pub mod Resolved
pub mod InText
pub mod RawTerm
