pub mod Asked
pub mod Gone
pub mod Listed
pub mod Refused
