pub mod All
pub mod Rows
