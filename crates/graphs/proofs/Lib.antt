pub mod CompletionLemmas
pub mod CountLemmas
pub mod OrderLemmas
pub mod QueueLemmas
pub mod RankLemmas
pub mod Standing
pub mod SystemLemmas
