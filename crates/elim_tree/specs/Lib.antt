pub mod Forests
pub mod ParentTables
pub mod Paths
pub mod Postorders
pub mod Reaches
pub mod Spans
pub mod Trees
