pub mod DeskLemmas
pub mod FieldLemmas
pub mod ImportLemmas
pub mod PlainTyping
pub mod ReadLemmas
pub mod TypingLemmas
