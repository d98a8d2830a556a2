pub mod Need
pub mod SoFar
