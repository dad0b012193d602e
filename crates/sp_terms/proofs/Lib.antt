pub mod Stacks
pub mod ValuesLemmas
pub mod PendingLemmas
pub mod SystemLemmas
pub mod BuilderLemmas
pub mod Standing
pub mod Positions
