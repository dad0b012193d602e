pub mod Claims
pub mod Rules
pub mod Derivations
pub mod Placed
pub mod Samples
