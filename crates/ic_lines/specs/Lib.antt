pub mod Bytes
pub mod Escapes
pub mod Memory
pub mod Reading
pub mod Steady
