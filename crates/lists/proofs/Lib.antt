pub mod Bools
pub mod Lists
pub mod Options
pub mod Orders
pub mod Places
