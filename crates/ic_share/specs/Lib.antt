pub mod LeaveOut
pub mod Share
pub mod Shared
pub mod Users
