pub mod Capped
pub mod Given
pub mod Lines
pub mod Parsed
