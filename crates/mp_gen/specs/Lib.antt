pub mod Dice
pub mod RandomTree
pub mod RandomWorkflow
pub mod Grid
pub mod Room
pub mod Samples
