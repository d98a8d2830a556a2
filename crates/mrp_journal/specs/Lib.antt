pub mod File
pub mod Held
pub mod Journal
pub mod Lines
pub mod Memory
pub mod Rows
pub mod Table
