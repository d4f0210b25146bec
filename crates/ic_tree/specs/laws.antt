-- What always holds of the stored and of the shown form, proved: the laws of a dialect, and what they rest on.
-- Languages, names, ends and references are dealt with for any dialect. And that a formula is written level by level.
pub mod LanguageLaws
pub mod NameLaws
pub mod EndLaws
pub mod ReferenceLaws
pub mod StoredPlaces
pub mod StoredLaws
pub mod EitherLaws
pub mod A1Ends
pub mod ShownLaws
pub mod PrintLaws
pub mod LevelLaws
