pub mod Outcome
pub mod Erased
pub mod Names
pub mod Parts
pub mod Leaves
pub mod Synthesis
pub mod Checked
pub mod Pairs
