pub mod DrawLemmas
pub mod TreeLemmas
pub mod RoomLemmas
pub mod GridLemmas
