pub mod RunsPlanned
pub mod DayWritten
pub mod DayMade
pub mod DayRuns
pub mod RefusedItem
pub mod DayReports
pub mod Remade
