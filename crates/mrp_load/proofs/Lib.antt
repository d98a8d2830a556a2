pub mod PlannedOrders
pub mod Summing
pub mod Grouped
pub mod Overloads
