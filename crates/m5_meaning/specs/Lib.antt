pub mod Numbers
pub mod Parts
pub mod Reduction
pub mod Site
pub mod Step
pub mod Opening
pub mod Seals
