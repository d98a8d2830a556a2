pub mod Words
pub mod Folder
pub mod Help
pub mod Hints
