pub mod Below
pub mod Wants
pub mod Rows
pub mod Levels
pub mod Crossings
pub mod Handing
pub mod Walks
