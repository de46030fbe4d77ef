pub mod Said
pub mod Views
pub mod Kind
pub mod Once
