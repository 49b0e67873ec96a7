pub mod Replies
pub mod Standing
pub mod Turns
pub mod ChangedSite
pub mod TakenTurns
pub mod TurnLists
pub mod OpenedRuns
pub mod WholeRuns
