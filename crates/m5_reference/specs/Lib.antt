pub mod Budget
pub mod Reference
pub mod Moments
pub mod Running
pub mod Finishing
pub mod Ahead
pub mod Turning
pub mod ClosedTurn
