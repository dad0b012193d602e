pub mod BoundedPlanFile
pub mod Json
pub mod JsonValues
pub mod Printed
pub mod Reader
pub mod Samples
