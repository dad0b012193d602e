pub mod SharedGraphFile
pub mod EitherVersion
pub mod SharedGraphText
pub mod Reader
pub mod Stated
pub mod Samples
