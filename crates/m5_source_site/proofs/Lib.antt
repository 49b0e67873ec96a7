pub mod Quotient
pub mod Outcomes
pub mod Begun
pub mod ClosedTerm
pub mod ClosedReduction
pub mod Closing
pub mod TypedClosed
