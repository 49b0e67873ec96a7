pub mod Weaken
pub mod Substitute
pub mod Mobile
pub mod Everywhere
pub mod Unique
pub mod ClosedTerms
pub mod Bounded
pub mod Declared
