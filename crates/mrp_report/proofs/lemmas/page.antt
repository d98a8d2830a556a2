pub mod RowCells
pub mod Puts
pub mod Digits
pub mod Tables
pub mod PlainCells
pub mod Lines
