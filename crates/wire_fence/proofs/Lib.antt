pub mod Counts
pub mod Events
pub mod Keyed
pub mod Missing
pub mod Nodes
pub mod ReadRows
pub mod States
pub mod FenceTable
pub mod Forgotten
mod Kept
