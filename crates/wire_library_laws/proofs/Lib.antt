mod Stored
mod Past
mod Gets
mod Got
mod Nows
pub mod Runs
pub mod Stuck
pub mod Names
pub mod Rows
pub mod Anywhere
mod PortableRow
