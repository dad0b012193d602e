pub mod Best
pub mod Problem
pub mod Named
