pub mod RisingClaims
pub mod Lengths
pub mod FrontsMade
pub mod FrontPostorders
pub mod ColumnsAlong
pub mod RoomForClaims
pub mod SharedPlans
