pub mod Bracket
pub mod Parts
pub mod Items
pub mod Through
pub mod Least
pub mod SaysOnce
pub mod FirstWords
mod RoleLists
