pub mod Fill
pub mod MinimumDegree
pub mod Samples
