pub mod Merging
pub mod Crossing
pub mod Laws
