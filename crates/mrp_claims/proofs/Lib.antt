pub mod Cells
pub mod ClaimTexts
pub mod PlainRows
pub mod Names
pub mod ReplyWords
pub mod RowLengths
pub mod Rows
