pub mod Text
pub mod Ahead
pub mod Grammar
pub mod Reading
pub mod ReadingLaws
pub mod Report
pub mod Comments
