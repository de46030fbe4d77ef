pub mod Workers
pub mod CommandLine
pub mod Spreads
pub mod Requests
pub mod Reading
pub mod Tables
