pub mod TwoDesks
pub mod OneWorker
pub mod Crossing
