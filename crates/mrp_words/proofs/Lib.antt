pub mod Asked
pub mod Workers
pub mod Folders
pub mod Entered
pub mod AskedPage
