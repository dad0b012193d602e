pub mod TextLemmas
pub mod DigitLemmas
pub mod LineLemmas
pub mod CursorLemmas
pub mod ScanLemmas
pub mod ReadingLemmas
pub mod GrammarLemmas
pub mod ReportLemmas
