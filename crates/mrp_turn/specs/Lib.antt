pub mod Lists
pub mod Log
pub mod Rule
pub mod Steps
pub mod Seen
pub mod Faults
pub mod Calls
pub mod Tally
