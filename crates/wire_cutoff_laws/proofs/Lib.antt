mod Turns
pub mod Few
