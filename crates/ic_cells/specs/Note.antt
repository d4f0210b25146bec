-- What is noted of an error: the place where it arose and what to say of it.
use Rattle.std.specs.Prelude.{[], Option, Some, None}
use Rattle.ic_cells.specs.declared.note.ErrorTexts.{ErrorTexts}

-- two empty texts
abbrev pub no_note : ErrorTexts
no_note = record { o = []; m = [] }

-- both texts, by what is kept of them: nothing of two empty ones
abbrev pub noted : Option ErrorTexts → ErrorTexts
noted None = no_note
noted (Some texts) = texts
