pub mod Command
pub mod Reply
pub mod Styling
pub mod Subject
pub mod Words
pub mod subjects
