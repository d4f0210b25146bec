pub mod Evaluated
pub mod Told
