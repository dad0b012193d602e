pub mod FileLemmas
pub mod FormLemmas
pub mod LengthLemmas
pub mod NodeLines
pub mod PrintedLemmas
pub mod ReaderLaws
pub mod StatedLemmas
