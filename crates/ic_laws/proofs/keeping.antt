mod ChangeExamples
pub mod Accepted
pub mod Books
pub mod Deletes
pub mod Finding
pub mod Founds
pub mod Holds
pub mod Kept
pub mod Moves
pub mod NameChanges
pub mod Namings
pub mod Removing
pub mod Renames
pub mod SheetChanges
pub mod Sheets
pub mod Spared
