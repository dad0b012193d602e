pub mod Options
pub mod Request
pub mod RequestViews
pub mod Words
