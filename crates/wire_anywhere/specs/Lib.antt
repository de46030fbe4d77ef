pub mod Anywhere
pub mod Adding
pub mod Gets
pub mod Carriers
pub mod Races
pub mod Order
pub mod Differing
pub mod Answered
