pub mod ReaderLaws
pub mod FormLemmas
pub mod PrintingLemmas
pub mod PrintedLemmas
pub mod PrintedWhole
pub mod LengthLemmas
pub mod JsonLemmas
