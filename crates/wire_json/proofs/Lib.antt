pub mod Escapes
pub mod Texts
pub mod ChainTexts
pub mod WitnessTexts
pub mod Left
pub mod Joined
pub mod Rows
