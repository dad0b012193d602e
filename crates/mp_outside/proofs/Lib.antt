pub mod Pieces
pub mod NamedFiles
