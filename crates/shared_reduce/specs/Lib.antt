pub mod Uses
pub mod Refusal
pub mod SharedTerm
pub mod Single
