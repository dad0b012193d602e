pub mod IdentityLemmas
pub mod Inverse
pub mod InverseLemmas
pub mod PermLemmas
pub mod PlaceLemmas
pub mod TableLemmas
