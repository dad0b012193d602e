pub mod Bounds
pub mod Places
pub mod Chunked
pub mod Roots
pub mod Said
