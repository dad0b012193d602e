pub mod MarkLemmas
pub mod RowLemmas
pub mod FactorRows
pub mod SumLemmas
pub mod RowLeaves
mod VertexRows
pub mod AncestorLemmas
pub mod SpanRows
pub mod LeafCounts
pub mod ColumnLemmas
pub mod ColumnRows
