pub mod Sites
pub mod Opening
pub mod ClosedSites
