pub mod Cutting
pub mod Written
pub mod Alike
pub mod Same
pub mod Parted
