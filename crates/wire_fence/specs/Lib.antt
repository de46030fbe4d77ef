pub mod FenceTable
pub mod Reading
pub mod Register
pub mod Arrivals
pub mod Missing
