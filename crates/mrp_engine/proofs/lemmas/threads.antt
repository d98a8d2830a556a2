pub mod Entries
pub mod Starts
pub mod Boards
pub mod Told
pub mod Days
pub mod OneRun
