-- No public clause names this.
-- Worked examples of the definitions that the top call stands on, where the crates below have none. Expected values are those of
-- docs/FORMATS.md and of examples/, or worked by hand.
pub mod Words
pub mod Texts
pub mod Graphs
pub mod Plans
pub mod Matrices
pub mod Fronts
pub mod Requests
pub mod Answers
