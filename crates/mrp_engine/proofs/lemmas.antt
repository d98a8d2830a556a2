pub mod day
pub mod event_core
pub mod live
pub mod threads
