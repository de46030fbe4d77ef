pub mod Chunks
pub mod Words
