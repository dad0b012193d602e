pub mod TermOrders
pub mod Steps
