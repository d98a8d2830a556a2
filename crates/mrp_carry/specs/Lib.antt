pub mod Carried
pub mod Carries
pub mod Periods
pub mod Rows
pub mod Standing
