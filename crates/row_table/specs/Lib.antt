pub mod Rooms
pub mod Rows
pub mod Table
