pub mod TaskSums
