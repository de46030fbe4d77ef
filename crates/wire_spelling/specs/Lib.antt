pub mod Known
pub mod Spelling
pub mod Spelled
pub mod Numbering
pub mod Reads
