pub mod Lines
pub mod Rules
pub mod Scanning
pub mod Steps
pub mod Texts
