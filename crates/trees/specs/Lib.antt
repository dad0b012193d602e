pub mod Ascent
pub mod Children
pub mod Forest
pub mod Judged
pub mod Plain
pub mod Samples
pub mod Tree
pub mod TreeTerm
