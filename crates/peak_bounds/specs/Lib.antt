pub mod EventSets
pub mod Evidence
pub mod Fitting
pub mod Judged
pub mod Judging
pub mod Moments
pub mod Samples
pub mod Steps
