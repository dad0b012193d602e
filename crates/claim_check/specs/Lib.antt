pub mod Claimed
pub mod Judgeable
pub mod Shapes
pub mod Judged
pub mod Lowest
pub mod Accepted
pub mod Verdicts
pub mod Opening
