pub mod TermWays
pub mod TermPaths
pub mod BothOrders
pub mod ListedSteps
pub mod TermTables
pub mod NamedOrders
