pub mod TestLemmas
pub mod LineLemmas
pub mod PrintedLaws
pub mod RowsAhead
pub mod LengthLemmas
