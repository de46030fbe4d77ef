pub mod Ordered
pub mod Renumberings
pub mod Fuller
pub mod Lines
pub mod Finds
pub mod SmallReplies
pub mod StatusesTold
