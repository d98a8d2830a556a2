pub mod Release
pub mod Needs
pub mod Walk
pub mod Told
pub mod Messages
