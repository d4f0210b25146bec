-- What always holds of a core book holds after each step.
pub mod CellWritten
pub mod Defined
pub mod KeptBook
pub mod Lists
pub mod Made
pub mod Named
pub mod SheetAdded
pub mod SheetDeleted
pub mod SheetMoved
pub mod SheetRenamed
pub mod Steps
