pub mod FormLemmas
pub mod OptionLemmas
pub mod TableLemmas
pub mod RowLemmas
pub mod WordLemmas
pub mod WalkLemmas
pub mod CommandLemmas
pub mod LineLemmas
