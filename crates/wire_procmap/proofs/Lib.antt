pub mod Keys
pub mod Tables
pub mod Tallies
pub mod Places
pub mod Rows
