pub mod Rows
pub mod Notes
pub mod ClockTrees
pub mod Trees
pub mod Rising
