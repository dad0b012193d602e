pub mod Outside
pub mod MemFiles
pub mod MemSink
pub mod RealSink
pub mod Samples
