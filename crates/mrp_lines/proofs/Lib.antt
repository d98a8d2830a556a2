pub mod Chunks
pub mod LineRecords
pub mod Machine
pub mod Sizes
pub mod TakenLines
pub mod Windows
pub mod Masks
