pub mod Rows
pub mod CellOf
pub mod CsvCells
pub mod Put
pub mod Groups
pub mod WordText
