pub mod Work
pub mod Table
pub mod Found
