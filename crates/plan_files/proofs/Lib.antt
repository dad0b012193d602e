pub mod FormLemmas
pub mod JsonLemmas
pub mod LengthLemmas
pub mod PrintedLemmas
pub mod ReaderLaws
