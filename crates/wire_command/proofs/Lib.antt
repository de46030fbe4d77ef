pub mod FileFaults
pub mod Fits
pub mod Came
pub mod Placed
pub mod Handed
pub mod Commanded
