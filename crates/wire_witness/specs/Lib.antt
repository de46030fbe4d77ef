pub mod Witness
pub mod NotShown
pub mod Runs
pub mod Races
pub mod Tried
pub mod Searches
