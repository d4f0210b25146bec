pub mod Copied
pub mod LookUps
pub mod Mentioning
pub mod Updated
