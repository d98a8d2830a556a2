pub mod KeptSums
pub mod WeekRows
