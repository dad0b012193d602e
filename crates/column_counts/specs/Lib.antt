pub mod Marks
pub mod Leaves
