pub mod Calendar
pub mod CivilDay
pub mod DateText
pub mod FaultText
pub mod Releases
pub mod ShopDays
pub mod View
