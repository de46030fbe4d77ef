pub mod Selections
pub mod Sharing
pub mod FirstNodes
pub mod Judged
pub mod Views
pub mod Texts
pub mod Ordered
