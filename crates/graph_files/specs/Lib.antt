pub mod GraphFile
pub mod Kinds
pub mod Reader
pub mod Stated
