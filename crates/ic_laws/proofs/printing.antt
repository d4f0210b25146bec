pub mod Chain
pub mod Ends
pub mod Operands
pub mod Signs
pub mod Trees
pub mod Words
