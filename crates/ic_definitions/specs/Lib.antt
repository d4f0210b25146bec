pub mod Bodies
pub mod Mentioned
pub mod Named
pub mod Remade
pub mod Tested
