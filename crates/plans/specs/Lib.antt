pub mod Plan
pub mod Samples
