pub mod Histories
pub mod Kept
pub mod Reports
pub mod Runs
