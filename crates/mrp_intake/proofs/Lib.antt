pub mod Calls
pub mod ToldLines
