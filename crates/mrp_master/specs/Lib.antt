pub mod Promising
pub mod Supply
pub mod Lines
pub mod AtpRow
pub mod Nodes
pub mod Tree
pub mod Numbered
