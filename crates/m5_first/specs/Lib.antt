pub mod Says
pub mod Claimed
pub mod Walk
pub mod Form
