pub mod CheckEnds
pub mod Ends
