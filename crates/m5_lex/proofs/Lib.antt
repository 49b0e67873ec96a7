pub mod Placing
pub mod Scanning
pub mod Lexemes
pub mod Taking
pub mod Spelled
pub mod Showing
