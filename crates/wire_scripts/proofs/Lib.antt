pub mod SetTable
pub mod Written
pub mod Listed
pub mod SameCalls
pub mod Same
pub mod Migrated
pub mod Moved
pub mod PlannedCalls
mod Broken
mod Lines
