pub mod Kinds
pub mod Reader
pub mod Samples
pub mod Stated
pub mod TreeFile
pub mod TreeText
