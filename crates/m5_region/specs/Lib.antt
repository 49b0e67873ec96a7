pub mod Region
pub mod Units
pub mod Layout
pub mod Bench
pub mod code
