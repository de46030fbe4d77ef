pub mod Ending
pub mod Read
pub mod Success
pub mod Answer
pub mod Command
