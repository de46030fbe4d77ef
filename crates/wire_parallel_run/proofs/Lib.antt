pub mod Passes
pub mod AtRest
pub mod Plainly
pub mod ByFates
