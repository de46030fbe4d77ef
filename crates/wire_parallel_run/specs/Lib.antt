pub mod Collect
pub mod Passes
pub mod Trails
