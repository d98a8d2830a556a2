pub mod Intake
pub mod Lines
