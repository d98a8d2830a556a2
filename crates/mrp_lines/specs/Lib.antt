pub mod Lines
pub mod Left
pub mod Next
pub mod Taken
