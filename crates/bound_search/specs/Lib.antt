pub mod Needs
pub mod Certified
