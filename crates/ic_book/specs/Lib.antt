pub mod Inside
pub mod Markup
