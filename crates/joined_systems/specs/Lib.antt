pub mod Joins
pub mod Joined
pub mod Samples
pub mod Few
pub mod Kinds
pub mod Needs
