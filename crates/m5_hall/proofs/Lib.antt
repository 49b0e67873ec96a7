pub mod Sums
pub mod Logs
pub mod OneView
pub mod Moves
pub mod Leaves
pub mod Cuts
pub mod Counts
pub mod Ends
