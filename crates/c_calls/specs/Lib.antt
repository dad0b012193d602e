pub mod Statuses
pub mod FaultKinds
pub mod Faults
pub mod Answers
pub mod Columns
pub mod Refusals
pub mod Slots
pub mod Fronts
