mod Happens
pub mod Fewer
mod Grown
mod Largest
mod Labels
mod Descent
pub mod EdgesBack
mod Staged
pub mod AllSizes
