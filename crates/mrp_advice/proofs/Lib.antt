mod Days
mod HeaderSteps
pub mod Listings
mod NameTexts
mod Pieces
mod Runs
mod Signs
