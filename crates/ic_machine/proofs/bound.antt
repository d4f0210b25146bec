-- What formulas and bodies mean after sheets and definitions come, go and are copied.
pub mod BindsLemmas
pub mod CopiedBinds
pub mod CopiedWords
pub mod CopyKeys
pub mod CopyNames
pub mod InsertedBinds
pub mod NamesFirst
pub mod NewNames
pub mod NumberLemmas
pub mod SceneLemmas
pub mod UpdatedBinds
pub mod WordLemmas
