pub mod Disk
pub mod Kept
pub mod Memory
pub mod Named
pub mod Sealed
