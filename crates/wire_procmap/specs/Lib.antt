pub mod Keys
pub mod Map
pub mod Places
pub mod Rows
pub mod Tallies
