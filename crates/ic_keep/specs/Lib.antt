pub mod Alike
pub mod Capture
pub mod Change
pub mod Copy
pub mod Rebound
pub mod Touched
