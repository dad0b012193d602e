pub mod Insert
pub mod Append
pub mod Merge
pub mod Passing
pub mod Lowest
pub mod Levels
pub mod Counting
pub mod Crossing
