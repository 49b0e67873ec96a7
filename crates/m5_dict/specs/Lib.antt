pub mod Lines
pub mod Standing
pub mod Known
pub mod Dictionaries
