pub mod Lines
pub mod Depth
pub mod Settling
pub mod Fitting
pub mod Verdicts
pub mod Laws
pub mod code
