-- Books whose sheets hold nothing: what their cores are, and what becomes of them when their sheets change.
use Rattle.std.proofs.Common.{◌≡◌, ℕ, List, [], ◌∷◌, map, false, Option, None, Ok, refl, ap, ap₂, ◌∙◌}
use Rattle.std.specs.List.{AllByRecursion}
use Rattle.ic_laws.specs.CoreBook as core_book
use Rattle.ic_laws.specs.CoreBook.{CoreBook, Definition, ids_of, names_of, spelling_of}
use Rattle.ic_laws.specs.Keeping.{KeyChange, kept_in_body}
use Rattle.ic_laws.specs.Notations.{Notations}
use Rattle.ic_laws.specs.declared.scene.Scene.{Scene}
use Rattle.ic_laws.specs.declared.scene.SheetName.{SheetName}
use Rattle.ic_machine.specs.Book.{Book, Entry, Sheet, core_cells, core_of, core_sheet, scene_in, unless, unless_refused}
use Rattle.ic_machine.specs.Changed.{with_kept_formulas, with_kept_pool}
use Rattle.ic_machine.specs.Refusal.{Causes, Refusal, first_refusal}
use Rattle.ic_machine.specs.Reply.{Field}
use Rattle.ic_machine.proofs.as_core.CoreLemmas.{no_cells}
use Rattle.ic_dump.specs.Stages.{bare_sheet, with_bare}

-- The core. ----

-- a sheet of the core without cells
abbrev pub bare_core : SheetName → core_book.Sheet
bare_core s = record { id = s.id; name = s.name; cells = [] }

pub bare_cores : (sheets : List SheetName) → map core_sheet (map bare_sheet sheets) ≡ map bare_core sheets
bare_cores [] = refl
bare_cores (s ∷ sheets) = ap₂ (λ (x : core_book.Sheet) (xs : List core_book.Sheet). x ∷ xs) (ap (λ (entries : List Entry). let x : core_book.Sheet = record { id = s.id; name = s.name; cells = core_cells [] entries } in x) no_cells) (bare_cores sheets)

-- a core with these sheets and definitions, and the notation of a book
abbrev pub core_with : Book → List core_book.Sheet → List Definition → CoreBook
core_with start sheets definitions = record { sheets = sheets; definitions = definitions; locale = start.locale; language = start.language }

pub core_bare : (sheets : List SheetName) (definitions : List Definition) (start : Book) → core_of (with_bare sheets definitions start) ≡ core_with start (map bare_core sheets) definitions
core_bare sheets definitions start = ap (λ (xs : List core_book.Sheet). core_with start xs definitions) (bare_cores sheets)

seen_bare : (sheets : List SheetName) → map (λ (s : core_book.Sheet). let x : SheetName = record { id = s.id; name = s.name } in x) (map core_sheet (map bare_sheet sheets)) ≡ sheets
seen_bare [] = refl
seen_bare (s ∷ sheets) = ap (λ (xs : List SheetName). s ∷ xs) (seen_bare sheets)

-- what its formulas can mention
pub scene_bare : (sheets : List SheetName) (definitions : List Definition) (start : Book) → scene_in (with_bare sheets definitions start) ≡ record { sheets = sheets; names = map spelling_of definitions }
scene_bare sheets definitions start = ap (λ (xs : List SheetName). let scene : Scene = record { sheets = xs; names = map spelling_of definitions } in scene) (seen_bare sheets)

pub names_bare : (sheets : List SheetName) (definitions : List Definition) (start : Book) → names_of (core_of (with_bare sheets definitions start)) ≡ map (λ (s : SheetName). s.name) sheets
names_bare [] definitions start = refl
names_bare (s ∷ sheets) definitions start = ap (λ (xs : List (List ℕ)). s.name ∷ xs) (names_bare sheets definitions start)

pub ids_bare : (sheets : List SheetName) (definitions : List Definition) (start : Book) → ids_of (core_of (with_bare sheets definitions start)) ≡ map (λ (s : SheetName). s.id) sheets
ids_bare [] definitions start = refl
ids_bare (s ∷ sheets) definitions start = ap (λ (xs : List ℕ). s.id ∷ xs) (ids_bare sheets definitions start)

-- Formulas that are kept. ----

module _ (n : Notations) (before after : Scene) (keys : KeyChange) where
  pools_kept : (sheets : List SheetName) → map (with_kept_pool n before after keys) (map bare_sheet sheets) ≡ map bare_sheet sheets
  pools_kept [] = refl
  pools_kept (s ∷ sheets) = ap (λ (xs : List Sheet). bare_sheet s ∷ xs) (pools_kept sheets)

  -- there are none but the bodies
  pub kept_bare : (sheets : List SheetName) (definitions : List Definition) (start : Book)
      → with_kept_formulas n before after keys (with_bare sheets definitions start) ≡ with_bare sheets (map (kept_in_body n before after keys) definitions) start
  kept_bare sheets definitions start =
      ap (λ (xs : List Sheet). let b : Book = record start { sheets = xs; definitions = map (kept_in_body n before after keys) definitions } in b) (pools_kept sheets)

  -- which stay
  pub kept_same_bare : (sheets : List SheetName) (definitions : List Definition) (start : Book) → AllByRecursion (λ (d : Definition). kept_in_body n before after keys d ≡ d) definitions
      → with_kept_formulas n before after keys (with_bare sheets definitions start) ≡ with_bare sheets definitions start
  kept_same_bare sheets definitions start h = kept_bare sheets definitions start ∙ ap (λ (ds : List Definition). with_bare sheets ds start) (same definitions h)
    where
      same : (ds : List Definition) → AllByRecursion (λ (d : Definition). kept_in_body n before after keys d ≡ d) ds → map (kept_in_body n before after keys) ds ≡ ds
      same [] h = refl
      same (d ∷ ds) h = ap₂ (λ (x : Definition) (xs : List Definition). x ∷ xs) h.0 (same ds h.1)

-- Steps that nothing refuses. ----

clear : (causes : Causes) → AllByRecursion (λ cause. cause.0 ≡ false) causes → first_refusal causes ≡ None
clear [] h = refl
clear (cause ∷ causes) h = rw h.0 (clear causes h.1)

pub unrefused : {A : Type 0} (causes : Causes) (left : A) (fields : List Field) → AllByRecursion (λ cause. cause.0 ≡ false) causes → unless_refused causes left fields ≡ Ok (left, fields)
unrefused causes left fields h = ap (λ (o : Option Refusal). unless o left fields) (clear causes h)
