pub mod Priorities
pub mod Rising
