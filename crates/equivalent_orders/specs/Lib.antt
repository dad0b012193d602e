pub mod Arrays
pub mod FrontPostorders
pub mod Fronts
pub mod Orders
pub mod Samples
