pub mod Lists
pub mod Mapped
pub mod Named
pub mod Judging
pub mod Once
pub mod Fit
pub mod Sound
mod Pushed
