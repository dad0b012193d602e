pub mod Fills
pub mod Paths
pub mod Children
pub mod Columns
pub mod RowSubtrees
pub mod Forests
pub mod Growth
pub mod CountLemmas
pub mod SpanLemmas
pub mod Postorderings
pub mod Places
pub mod OnePostorder
pub mod PermCounts
pub mod Reorderings
pub mod Renumberings
pub mod Postordered
mod RowsTaken
