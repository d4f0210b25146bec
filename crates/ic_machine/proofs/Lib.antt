pub mod again
pub mod as_core
pub mod bound
pub mod contents
mod examples
pub mod kinds
pub mod lost
pub mod same
pub mod valid
