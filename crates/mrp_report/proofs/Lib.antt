pub mod lemmas
pub mod Progress
pub mod TakenAll
