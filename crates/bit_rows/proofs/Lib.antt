pub mod WordBits
pub mod Counts
pub mod RowBits
