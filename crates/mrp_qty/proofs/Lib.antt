pub mod MinuteTexts
pub mod Numerals
mod Values
