pub mod OneOrder
pub mod FillLemmas
