pub mod Views
pub mod Rules
pub mod Shares
pub mod Rounds
pub mod Taken
pub mod Deques
