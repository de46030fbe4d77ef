pub mod Standstill
pub mod Lines
pub mod Report
pub mod Told
