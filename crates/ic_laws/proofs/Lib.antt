mod AmountExamples
pub mod AmountLemmas
pub mod AmountReading
pub mod AmountTexts
pub mod ByteRuns
pub mod CoreLemmas
pub mod FoldLaws
pub mod FormLemmas
mod FormulaExamples
pub mod General
pub mod LetterLemmas
mod LineExamples
mod LocalExamples
mod NameExamples
mod ReadingExamples
pub mod RunLemmas
pub mod Smallest
pub mod SmallestLaws
pub mod TextLemmas
pub mod binding
pub mod core
pub mod keeping
pub mod kept
pub mod parsing
pub mod printing
pub mod tokens
