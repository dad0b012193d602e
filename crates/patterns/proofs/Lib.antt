pub mod Entries
pub mod GroupLemmas
pub mod NumberLists
pub mod PartnerLemmas
pub mod PatternLemmas
pub mod SameRows
pub mod Starts
