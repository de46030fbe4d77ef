pub mod Deliveries
pub mod Cuts
pub mod Fates
pub mod Pasts
pub mod Waiting
