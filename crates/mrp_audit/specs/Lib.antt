pub mod Comparing
pub mod Kept
pub mod Parts
pub mod NextPlaces
pub mod Reading
pub mod Replays
pub mod Verdict
pub mod Input
