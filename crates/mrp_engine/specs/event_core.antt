pub mod Board
pub mod Core
pub mod Headline
pub mod Threads
pub mod OneRun
pub mod Kept
pub mod KeptRun
pub mod KeptCore
