pub mod Columns
pub mod Partners
pub mod Pattern
pub mod Plain
