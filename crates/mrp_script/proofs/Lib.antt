pub mod OneOpening
pub mod ScriptCalls
pub mod ShopFaults
pub mod Zipped
