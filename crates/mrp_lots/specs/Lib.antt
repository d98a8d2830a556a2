pub mod Lots
pub mod LotLaws
