pub mod page
pub mod section
pub mod wave
