pub mod DeskCalls
pub mod Desks
pub mod Runs
pub mod Begun
