pub mod Comes
pub mod Fronts
pub mod Laid
pub mod Shown
pub mod Made
pub mod Alike
