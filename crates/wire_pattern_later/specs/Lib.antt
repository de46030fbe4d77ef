pub mod Through
pub mod Later
