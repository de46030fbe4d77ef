pub mod LineSets
pub mod Lines
pub mod Places
pub mod Stops
pub mod Waits
pub mod AllNodes
pub mod Noting
