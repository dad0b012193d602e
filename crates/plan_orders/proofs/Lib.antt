pub mod OrderLemmas
pub mod JsonLemmas
