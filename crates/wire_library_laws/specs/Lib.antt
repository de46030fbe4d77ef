pub mod Library
pub mod Portable
pub mod Promised
pub mod Anywhere
