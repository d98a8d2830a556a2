pub mod Claims
pub mod Reading
pub mod Shape
