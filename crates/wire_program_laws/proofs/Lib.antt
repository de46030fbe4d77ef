mod Ahead
mod Named
mod Chosen
pub mod Tells
pub mod Programs
pub mod Elsewhere
pub mod Rows
pub mod Going
