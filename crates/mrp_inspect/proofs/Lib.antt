pub mod Counting
pub mod Cutting
pub mod FileTexts
pub mod FirstLines
pub mod Growing
mod Listing
pub mod Straying
