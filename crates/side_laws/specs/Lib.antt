pub mod Segments
pub mod Appending
pub mod Merging
pub mod Levels
pub mod Counting
pub mod Laws
pub mod Samples
