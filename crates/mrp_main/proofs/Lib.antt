mod Done
pub mod DayEnds
pub mod CheckEnds
