pub mod KnownSets
pub mod ItemOrder
mod Overlaps
pub mod NumberTable
pub mod Numbered
pub mod ReadSets
pub mod PlainCalls
