mod BodyExamples
mod EnglishExamples
mod LocalExamples
mod MentionExamples
mod NameExamples
mod NotationExamples
mod RawExamples
mod Readings
mod RenameExample
pub mod Session
mod SheetExamples
mod Small
