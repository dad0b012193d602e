pub mod BodyLines
pub mod LengthLemmas
pub mod NamedLines
pub mod PrintedLemmas
pub mod ReadLemmas
pub mod ReaderLaws
