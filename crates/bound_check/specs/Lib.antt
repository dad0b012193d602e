pub mod Shown
pub mod Objections
pub mod Accepted
pub mod Failing
