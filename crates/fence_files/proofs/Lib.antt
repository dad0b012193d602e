pub mod FormLemmas
pub mod LengthLemmas
pub mod PrintedLemmas
pub mod PrintingLemmas
pub mod ReaderLaws
mod Certified
