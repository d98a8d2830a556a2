pub mod File
pub mod Kept
pub mod Laws
pub mod Maker
pub mod Notes
