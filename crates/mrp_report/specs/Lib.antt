pub mod page
pub mod section
pub mod wave
pub mod Written
pub mod Taken
pub mod ReportText
