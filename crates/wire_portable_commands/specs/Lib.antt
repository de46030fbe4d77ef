pub mod Words
pub mod Lines
pub mod Heads
pub mod Json
pub mod Text
pub mod Read
pub mod CheckPortable
pub mod SpelledCalls
