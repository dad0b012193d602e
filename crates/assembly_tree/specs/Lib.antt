pub mod Amalgamation
pub mod Assembly
pub mod Fronts
pub mod MergeTables
pub mod Relaxation
pub mod RunTables
pub mod Samples
pub mod Supernodes
