pub mod Answered
pub mod Held
pub mod Lines
pub mod Opened
pub mod Wanted
