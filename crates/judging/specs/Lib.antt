pub mod Statuses
pub mod Files
pub mod Told
pub mod Numbered
pub mod Priorities
pub mod Pages
pub mod Judged
