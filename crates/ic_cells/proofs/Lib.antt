mod CellExamples
pub mod ColumnLemmas
mod IndexLemmas
mod Literals
pub mod MapLemmas
pub mod PlacedLemmas
pub mod StyleLemmas
pub mod TextLemmas
