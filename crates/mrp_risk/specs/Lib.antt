pub mod Adding
pub mod Chains
pub mod Late
pub mod Marks
pub mod PegLists
pub mod Risks
