pub mod Counting
pub mod Whole
pub mod Measures
pub mod Raws
pub mod Spine
pub mod Externs
pub mod Declaring
pub mod Numbered
