pub mod Calls
pub mod Told
pub mod Adding
pub mod OneList
pub mod Ordered
pub mod Packing
