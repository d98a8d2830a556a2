pub mod CivilDates
pub mod HolidayMarks
pub mod DateTexts
pub mod FirstDays
pub mod ReleaseLaws
pub mod Weekdays
