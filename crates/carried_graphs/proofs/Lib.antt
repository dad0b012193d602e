pub mod Following
pub mod ArcSums
pub mod SameOrders
pub mod SamePeaks
pub mod CarriedGraphs
pub mod LastPlaces
