mod Eachs
pub mod Asking
pub mod Silence
pub mod ClosedBoard
mod ChangedSite
pub mod SiteMaps
pub mod Counted
pub mod LocalSteps
pub mod Opened
