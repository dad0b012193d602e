pub mod Graph
pub mod Judged
pub mod Queue
