-- Commands as the core sees them.
pub mod CoreLemmas
pub mod CoreLines
pub mod CoreValid
pub mod FormulaLemmas
pub mod FormulaStepped
pub mod SteppedLemmas
