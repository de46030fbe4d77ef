pub mod Reading
pub mod Lined
