pub mod Codes
pub mod Items
pub mod ClosedSite
pub mod Reductions
pub mod Atoms
pub mod Waiting
