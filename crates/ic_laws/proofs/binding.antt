pub mod Again
mod BindingExamples
pub mod FoldedTexts
pub mod Induction
pub mod LocalWords
pub mod PairLemmas
pub mod SceneLemmas
pub mod Settled
