pub mod Limits
pub mod Reaching
pub mod Series
pub mod Par
pub mod Rules
pub mod Soundness
pub mod Lists
