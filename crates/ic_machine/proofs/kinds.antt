-- Commands by their kinds.
pub mod KindLemmas
pub mod ReaderLemmas
