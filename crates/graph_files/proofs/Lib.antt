pub mod FileLemmas
pub mod FormLemmas
pub mod ReadLemmas
pub mod ReaderLaws
pub mod StatedLemmas
