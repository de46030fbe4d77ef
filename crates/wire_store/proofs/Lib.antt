pub mod Chained
pub mod Committed
pub mod Elements
pub mod Found
pub mod Linked
pub mod Pushed
pub mod Told
