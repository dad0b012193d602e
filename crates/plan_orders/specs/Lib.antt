pub mod OrderOf
pub mod PlanOrder
pub mod Reader
