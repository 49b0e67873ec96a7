pub mod Again
pub mod Marks
pub mod Sent
pub mod Packs
pub mod Shift
pub mod Units
pub mod Rows
