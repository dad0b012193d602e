pub mod UseGraphs
pub mod NamedOrders
