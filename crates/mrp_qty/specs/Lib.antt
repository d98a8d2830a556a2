pub mod Digits
pub mod Minutes
pub mod Quantity
pub mod Reading
