pub mod Json
pub mod JsonValues
pub mod Kinds
pub mod PlanFile
pub mod Printed
pub mod Reader
pub mod Samples
