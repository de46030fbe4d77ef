pub mod Views
pub mod Lines
pub mod Lookups
pub mod Rising
pub mod Tables
pub mod Staged
pub mod Succeeding
