pub mod BoundedPlan
