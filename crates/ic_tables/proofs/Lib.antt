pub mod CompareLemmas
pub mod FoldLemmas
mod ListLemmas
pub mod LiteralLemmas
pub mod Lookups
pub mod OrderLemmas
mod PlaceLemmas
pub mod SampleLemmas
pub mod WellFormed
pub mod WordLemmas
