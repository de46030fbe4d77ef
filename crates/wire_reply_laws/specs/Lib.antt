pub mod Kept
pub mod Promised
