pub mod Explosion
pub mod Finished
pub mod Levels
pub mod Work
pub mod Workers
