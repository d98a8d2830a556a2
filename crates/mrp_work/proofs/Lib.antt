pub mod Added
pub mod Sums
