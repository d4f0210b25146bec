-- A formula that gets its place in a pool: the book's core.
use Rattle.std.proofs.Common.{◌≡◌, ℕ, zero, suc, ◌<◌, List, [], ◌∷◌, map, length, Option, Some, None, refl, ap, subst, ◌∙◌}
use Rattle.std.specs.FinMap as finite
use Rattle.std.specs.List.{AllByRecursion, slice_get}
use Rattle.ic_laws.proofs.core.CellWritten.{place_cmp_total}
use Rattle.ic_laws.specs.CoreBook.{CellPlace, Cells, CoreBook, Sheet as CoreSheet}
use Rattle.ic_laws.specs.CoreStep.{updated_at}
use Rattle.ic_laws.specs.Notations.{Notations}
use Rattle.ic_laws.specs.declared.tree.Formula.{Formula}
use Rattle.ic_cells.specs.Cell.{cell_formula_index}
use Rattle.ic_cells.specs.Maps.{place_cmp}
use Rattle.ic_cells.specs.declared.cell.Cell.{Cell}
use Rattle.ic_machine.proofs.as_core.CoreValid.{each_found}
use Rattle.ic_pool.specs.Pool.{IsPlaced}
use Rattle.ic_sheets.proofs.PoolLemmas.{IsBelow, cells_same, has_placed}
use Rattle.ic_sheets.specs.Sheet.{HasIndexes, IsValidPool, Sheet, sheet_core}
use Rattle.ic_parts.specs.Book.{Book, core_of, scene_in}
use Rattle.ic_parts.specs.Written.{with_pool}

-- the item at an index has what all have
pub one_of_all : {X : Type 0} (P : X → Type 0) (i : ℕ) (xs : List X) (x : X) → slice_get xs i ≡ Some x → AllByRecursion P xs → P x
one_of_all P i [] x at h = cc
one_of_all P zero (y ∷ xs) x at h = let same : y ≡ x = cc in subst P same h.0
one_of_all P (suc i) (y ∷ xs) x at h = one_of_all P i xs x at h.1

-- a change of the item at an index that is seen through g as another, of that item alone
pub updated_alike : {X Y : Type 0} (g : X → Y) (f : X → X) (h : Y → Y) (i : ℕ) (xs : List X) (x : X) → slice_get xs i ≡ Some x → g (f x) ≡ h (g x) → map g (updated_at f i xs) ≡ updated_at h i (map g xs)
updated_alike g f h i [] x at e = cc
updated_alike {X} g f h zero (y ∷ xs) x at e = let same : x ≡ y = cc in ap (λ z. z ∷ map g xs) (subst (λ (z : X). g (f z) ≡ h (g z)) same e)
updated_alike g f h (suc i) (y ∷ xs) x at e = ap (λ rest. g y ∷ rest) (updated_alike g f h i xs x at e)

-- the formula of each cell is one of the pool
pub below : (count : ℕ) (o : Option ℕ) → ((at : ℕ) → o ≡ Some at → at < count) → IsBelow count o
below count None h = tt
below count (Some at) h = h at refl

all_below : (sheet : Sheet) → HasIndexes (length sheet.pool) sheet.grid → AllByRecursion (λ (e : CellPlace × Cell). IsBelow (length sheet.pool) (cell_formula_index e.1)) (finite.entries sheet.grid.cells)
all_below sheet places =
    each_found place_cmp place_cmp_total (λ (p : CellPlace) (x : Cell). IsBelow (length sheet.pool) (cell_formula_index x)) (finite.entries sheet.grid.cells) (finite.entries_sorted sheet.grid.cells)
    (λ p x e. below (length sheet.pool) (cell_formula_index x) (λ at is. places p x at (finite.get-entries sheet.grid.cells p ∙ e) is))

-- the core doesn't see a formula that no cell has
pub core_of-pool : (n : Notations) (book : Book) (index : ℕ) (sheet : Sheet) → slice_get book.sheets index ≡ Some sheet → (formula : Formula) (place : ℕ) (pool : List Formula) → IsPlaced formula place sheet.pool pool
    → AllByRecursion (IsValidPool n (scene_in book)) book.sheets → core_of (with_pool index pool book) ≡ core_of book
core_of-pool n book index sheet at_index formula place pool placed valid =
    let its = one_of_all (IsValidPool n (scene_in book)) index book.sheets sheet at_index valid in
    ap (λ (sheets : List CoreSheet). let core : CoreBook = record { sheets = sheets; definitions = book.definitions; locale = book.locale; language = book.language } in core)
    (updated_alike sheet_core (λ s. record s { pool = pool }) (λ s. s) index book.sheets sheet at_index
    (ap (λ (cells : Cells). let s : CoreSheet = record { id = sheet.id; name = sheet.name; cells = cells } in s) (cells_same sheet.pool pool (has_placed formula place sheet.pool pool placed).others (finite.entries sheet.grid.cells) (all_below sheet its.indexes)))
    ∙ unchanged index (map sheet_core book.sheets))
  where
    unchanged : (i : ℕ) (sheets : List CoreSheet) → updated_at (λ s. s) i sheets ≡ sheets
    unchanged i [] = refl
    unchanged zero (s ∷ sheets) = refl
    unchanged (suc i) (s ∷ sheets) = ap (λ rest. s ∷ rest) (unchanged i sheets)
