pub mod AskedLemmas
pub mod GoneLemmas
pub mod ListedLemmas
pub mod MomentLemmas
