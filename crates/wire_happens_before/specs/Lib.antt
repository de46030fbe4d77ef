pub mod Updates
pub mod Clocks
pub mod Chain
pub mod Marking
pub mod Meeting
pub mod Following
