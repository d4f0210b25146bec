-- Why a book has no such lines, and what the errors tell.
use Rattle.std.specs.Prelude.{◌≡◌, ℕ, List, [], ◌∷◌, find, flat_map, length, Bool, true, false, ◌||◌, Option, Some, None, Result, Ok, Err, is_some, nat_eq, option_map, slice_get, if◌then◌else◌}
use Rattle.std.specs.List.{list_any}
use Rattle.std.specs.Option.{option_or}
use Rattle.ic_laws.specs.CoreBook.{CellPlace, CoreBook, Definition, Sheet, spelling_of}
use Rattle.ic_laws.specs.FormulaReading.{cell_tree}
use Rattle.ic_laws.specs.Notations.{Notations, english}
use Rattle.ic_laws.specs.Scene.{key_of}
use Rattle.ic_laws.specs.declared.tree.Formula.{Formula}
use Rattle.ic_laws.specs.declared.tree.Formula.TheVariants as formulas
use Rattle.ic_laws.specs.declared.tree.NameKey.{NameKey}
use Rattle.ic_machine.specs.Refusal.{CellSite, Site}
use Rattle.ic_parts.specs.Sites.{site_of}
use Rattle.ic_dump.specs.Passing.{formulas_in}
use Rattle.ic_dump.specs.declared.error.DumpError.{DumpError}
use Rattle.ic_dump.specs.declared.error.DumpError.TheVariants as errors

-- the body of a definition is a text that doesn't read; or that of a cell's formula would read in English, or has nothing in
-- it, so that no line writes it
pub data Cause : Type 0 where
  RawBody : (key : NameKey) → Cause
  Rereads : (site : Site) → Cause

-- a formula is a text that doesn't read
abbrev pub is_raw : Formula → Bool
is_raw (formulas.Raw text) = true
is_raw (formulas.Tree t) = false

-- the first definition with such a body, by its key
abbrev pub raw_body : CoreBook → Option NameKey
raw_body book = option_map (λ d. key_of (spelling_of d)) (find (λ (d : Definition). is_raw d.body) book.definitions)

-- a text, written into a cell after `=` in English, isn't kept as it is: nothing stands there, or it reads, or does with a `)`
abbrev pub is_read : Notations → CellPlace → List ℕ → Bool
is_read n place text = nat_eq (length text) 0 || is_some (cell_tree (n.shown english english place.0 place.1) text)

abbrev pub rereads : Notations → CellPlace → Formula → Bool
rereads n place (formulas.Raw text) = is_read n place text
rereads n place (formulas.Tree t) = false

-- the cells with such a text, by sheets, rows and columns
abbrev pub rereading_cell : Notations → ℕ → CellPlace × Formula → List Site
rereading_cell n id cell = if rereads n cell.0 cell.1 then CellSite id cell.0 ∷ [] else []

abbrev pub rereading_cells : Notations → CoreBook → List Site
rereading_cells n book = flat_map (λ (s : Sheet). flat_map (rereading_cell n s.id) s.cells) book.sheets

abbrev pub rereading : Notations → CoreBook → Option Site
rereading n book = slice_get (rereading_cells n book) 0

-- a raw body comes before any cell, and of each the first
abbrev pub cause_of : Notations → CoreBook → Option Cause
cause_of n book = option_or (option_map RawBody (raw_body book)) (option_map Rereads (rereading n book))

-- where each formula of a book reads there is none
abbrev pub TreesHaveLines : Type 0
TreesHaveLines = (n : Notations) (book : CoreBook) → list_any is_raw (formulas_in book) ≡ false → cause_of n book ≡ None

-- an answer tells the cause that there is; that memory ran out may come in place of any other answer
abbrev pub Tells : {T : Type 0} → Result T DumpError → Option Cause → Type 0
Tells (Ok value) cause = cause ≡ None
Tells (Err (errors.RawBody key)) cause = cause ≡ Some (RawBody key)
Tells (Err (errors.Rereads site)) cause = cause ≡ Some (Rereads (site_of site))
Tells (Err errors.OutOfMemory) cause = Unit {0}
