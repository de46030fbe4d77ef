pub mod PlacedLines
pub mod PlacedGroups
pub mod PlacedJson
pub mod Differing
pub mod Forms
