pub mod Cuts
pub mod Positions
pub mod Seats
pub mod Steps
pub mod Lanes
pub mod PlainTrails
