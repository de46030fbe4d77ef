pub mod Runs
pub mod Programs
pub mod Elsewhere
pub mod Going
