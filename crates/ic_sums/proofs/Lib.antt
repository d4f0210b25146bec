pub mod EvaluatedLemmas
pub mod PutLemmas
pub mod ToldLemmas
