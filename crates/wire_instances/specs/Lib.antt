pub mod Views
pub mod Nodes
pub mod Tables
pub mod Written
pub mod Faults
pub mod Search
pub mod Asked
