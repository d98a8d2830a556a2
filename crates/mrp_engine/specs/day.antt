pub mod Day
pub mod RightDay
pub mod Fault
pub mod Run
pub mod Planned
pub mod RunPlans
pub mod NetChange
