-- What becomes of the formulas of all sheets over a change of the sheets or the definitions.
use Rattle.std.specs.Prelude.{◌≡◌, ℕ, List, [], ◌∷◌, ◌&&◌, Bool, true, false, map, not, Option, Some, None, find, nat_eq, if◌then◌else◌}
use Rattle.std.specs.List.{AllByRecursion, IsDistinct, list_any}
use Rattle.ic_laws.specs.Changes.{Change}
use Rattle.ic_laws.specs.Scene.{same_scope}
use Rattle.ic_pool.specs.Mentions.{SparesFound, formula_after, is_changed_by}
use Rattle.ic_pool.specs.Rewrites.{FitsPool, ListsChanged, RewritesState, changes_nothing, rewritten_by}
use Rattle.ic_sheets.specs.Index.{is_id}
use Rattle.ic_sheets.specs.Sheet.{Sheet, sheet_of}
use Rattle.ic_sheets.specs.declared.sheet.Sheet.{Sheet as HeldSheet}

-- a sheet with each of its formulas changed
abbrev pub changed_pool : Change → Sheet → Sheet
changed_pool change sheet = record sheet { pool = map (formula_after change (Some sheet.id)) sheet.pool }

-- the sheets without what they keep to find formulas by
abbrev pub sheets_of : List HeldSheet → List Sheet
sheets_of sheets = map sheet_of sheets

-- whether the look-up of each sheet has all of its formulas
abbrev pub look_ups : List HeldSheet → List Bool
look_ups sheets = map (λ s. s.pool.is_whole) sheets

-- The look-up of a sheet has all of its formulas after a change where it had all before, and no mention of them changes.
abbrev pub looks_up_after : Change → HeldSheet → Bool
looks_up_after change sheet = sheet.pool.is_whole && not (list_any (is_changed_by change (Some sheet.id)) sheet.pool.formulas)

-- a sheet whose formulas are rewritten
abbrev pub with_rewrites : RewritesState → HeldSheet → HeldSheet
with_rewrites rewrites sheet = record sheet { pool = record { formulas = rewritten_by rewrites sheet.pool.formulas; is_whole = sheet.pool.is_whole && changes_nothing rewrites } }

-- this was prepared for a sheet, over whose formulas a change is to go
pub record IsPrepared (change : Change) (rewrites : RewritesState) (sheet : HeldSheet) : Type 0 where
  pub made : rewritten_by rewrites sheet.pool.formulas ≡ map (formula_after change (Some sheet.id)) sheet.pool.formulas
  pub listed : ListsChanged change (Some sheet.id) sheet.pool.formulas rewrites
  pub fits : FitsPool rewrites sheet.pool.formulas

-- what was prepared for the sheet with this id, if anything was
abbrev pub own_rewrites : ℕ → List (ℕ × RewritesState) → Option RewritesState
own_rewrites id [] = None
own_rewrites id (first ∷ more) = if nat_eq id first.0 then Some first.1 else own_rewrites id more

-- a sheet by this, if anything was prepared for it; else it stays
abbrev pub rewritten_if : Option RewritesState → HeldSheet → HeldSheet
rewritten_if None sheet = sheet
rewritten_if (Some rewrites) sheet = with_rewrites rewrites sheet

-- each sheet by what was prepared for its id; those for which nothing was stay
abbrev pub with_own_rewrites : List (ℕ × RewritesState) → List HeldSheet → List HeldSheet
with_own_rewrites prepared sheets = map (λ s. rewritten_if (own_rewrites s.id prepared) s) sheets

-- these were prepared for the sheets with these ids, one for each, and each as this says of it and its sheet
pub record PreparesEach (Is : RewritesState → HeldSheet → Type 0) (prepared : List (ℕ × RewritesState)) (ids : List ℕ) (sheets : List HeldSheet) : Type 0 where
  pub each : map (λ p. p.0) prepared ≡ ids
  pub made : (id : ℕ) (rewrites : RewritesState) (sheet : HeldSheet) → own_rewrites id prepared ≡ Some rewrites → find (λ s. nat_eq s.id id) sheets ≡ Some sheet
      → Is rewrites sheet

-- what was prepared for a sheet, if anything was, fits its pool
abbrev pub FitsSheet : Option RewritesState → HeldSheet → Type 0
FitsSheet None sheet = Unit {0}
FitsSheet (Some rewrites) sheet = FitsPool rewrites sheet.pool.formulas

-- Outside of the sheet with this id a change leaves each formula in which all was found.
abbrev pub SparesElsewhere : Option ℕ → Change → Type 0
SparesElsewhere whole change = (id : ℕ) → same_scope whole (Some id) ≡ false → SparesFound change (Some id)

-- It was prepared for some of these sheets, once for each, and fits.
pub record FitOwn (prepared : List (ℕ × RewritesState)) (sheets : List HeldSheet) : Type 0 where
  pub known : AllByRecursion (λ p. is_id p.0 sheets ≡ true) prepared
  pub differ : IsDistinct nat_eq (map (λ p. p.0) prepared)
  pub fits : AllByRecursion (λ s. FitsSheet (own_rewrites s.id prepared) s) sheets

-- In a sheet a formula becomes another exactly where one of its mentions changes; where nothing was prepared none does.
abbrev pub ListsIf : Change → Option RewritesState → HeldSheet → Type 0
ListsIf change None sheet = list_any (is_changed_by change (Some sheet.id)) sheet.pool.formulas ≡ false
ListsIf change (Some rewrites) sheet = ListsChanged change (Some sheet.id) sheet.pool.formulas rewrites

-- what was prepared fits, and makes of the formulas of all sheets what the change does
pub record Makes (change : Change) (prepared : List (ℕ × RewritesState)) (sheets : List HeldSheet) : Type 0 where
  pub fits : FitOwn prepared sheets
  pub made : sheets_of (with_own_rewrites prepared sheets) ≡ map (changed_pool change) (sheets_of sheets)
  pub listed : AllByRecursion (λ s. ListsIf change (own_rewrites s.id prepared) s) sheets
  pub looks_up : look_ups (with_own_rewrites prepared sheets) ≡ map (looks_up_after change) sheets
