pub mod States
pub mod Shown
pub mod Runs
pub mod Kept
pub mod Views
pub mod Answers
