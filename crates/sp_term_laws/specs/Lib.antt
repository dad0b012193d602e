pub mod Along
pub mod Moves
pub mod Ways
pub mod Interleaved
pub mod Composed
