pub mod FewPlacings
pub mod Lines
pub mod Answers
pub mod Notes
