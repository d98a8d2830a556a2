pub mod Status
pub mod Telling
pub mod Refusal
pub mod PageEnds
pub mod CarryEnds
pub mod InspectEnds
