pub mod Planned
pub mod Drafts
