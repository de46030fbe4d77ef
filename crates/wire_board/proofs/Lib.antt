pub mod Cuts
pub mod Keeps
pub mod Dealing
pub mod Closing
pub mod Showing
pub mod Steps
pub mod Trails
pub mod Opening
mod Looking
mod Leaving
mod Fronting
mod Told
mod SameFates
pub mod PlainTrails
