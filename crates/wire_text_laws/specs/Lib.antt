pub mod Again
pub mod Kept
pub mod Following
pub mod Witnessed
