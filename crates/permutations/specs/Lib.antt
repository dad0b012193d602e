pub mod Order
pub mod Perm
pub mod PermTables
pub mod PlaceTables
