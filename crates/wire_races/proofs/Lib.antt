pub mod Adding
pub mod AllKinds
pub mod Growing
pub mod Later
pub mod KeyRaces
pub mod ByGets
pub mod Deliveries
pub mod Lists
pub mod Names
pub mod NameRaces
mod Swept
mod SweepRaces
pub mod Rivals
pub mod Pairs
pub mod Gathered
pub mod Together
