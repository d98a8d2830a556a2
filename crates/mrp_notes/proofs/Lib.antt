pub mod NeedWeeks
pub mod Tellings
pub mod MessageLaws
