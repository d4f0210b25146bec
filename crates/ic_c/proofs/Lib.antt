mod FirstLines
mod RunLemmas
pub mod Values
