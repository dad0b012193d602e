pub mod FenceFile
pub mod Kinds
pub mod Printed
pub mod Reader
pub mod Samples
