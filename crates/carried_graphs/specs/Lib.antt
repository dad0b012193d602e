pub mod Carried
pub mod Refusal
pub mod Places
pub mod Samples
