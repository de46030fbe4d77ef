pub mod Pattern
pub mod Planned
pub mod Instances
pub mod Views
pub mod Lawful
pub mod Sound
