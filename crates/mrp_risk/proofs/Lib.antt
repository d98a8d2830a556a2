pub mod Added
pub mod Answered
pub mod LateRows
pub mod Marked
pub mod PegListed
