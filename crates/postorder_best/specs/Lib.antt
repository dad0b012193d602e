pub mod Postorder
pub mod BestPostorder
pub mod Rows
pub mod Samples
