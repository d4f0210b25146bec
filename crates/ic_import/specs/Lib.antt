pub mod Desk
pub mod Import
pub mod Placed
pub mod Reader
pub mod Records
pub mod Typed
