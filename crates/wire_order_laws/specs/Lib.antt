pub mod LessOrder
pub mod OrderThere
pub mod Unread
pub mod WholeFences
pub mod Leaner
