pub mod Findings
pub mod Collected
pub mod Packing
pub mod Standings
