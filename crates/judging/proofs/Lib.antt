pub mod FileLemmas
pub mod InputLemmas
pub mod NumberLemmas
pub mod PageLemmas
pub mod StepLemmas
pub mod HeldTasks
