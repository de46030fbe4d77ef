pub mod Edits
pub mod Explanations
pub mod Tables
pub mod Shown
pub mod Usages
mod Lines
mod Words
pub mod PatternUsages
mod PatternWords
pub mod Reasons
pub mod Sets
pub mod Texts
