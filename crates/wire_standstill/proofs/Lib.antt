pub mod Awaited
pub mod Found
pub mod Parts
pub mod Ranks
