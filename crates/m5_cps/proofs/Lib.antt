pub mod Lists
pub mod TypeRows
pub mod Standing
