pub mod Needs
pub mod Takings
pub mod Refusal
pub mod Asked
pub mod Rooms
pub mod Standing
