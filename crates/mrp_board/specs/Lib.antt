pub mod Board
pub mod Orderly
pub mod BoardState
pub mod Object
pub mod Queue
pub mod Kept
