pub mod Closing
pub mod Kept
pub mod Keys
pub mod NumberLists
pub mod Placing
pub mod Rooms
pub mod Tables
