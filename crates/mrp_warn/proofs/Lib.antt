pub mod Firsts
pub mod Grouped
pub mod Namings
pub mod Tallied
pub mod Weeks
pub mod Worded
pub mod ToldRows
