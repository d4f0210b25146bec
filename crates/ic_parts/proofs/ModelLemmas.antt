-- What a model's sheets are to the book: what formulas find among them, which formula a cell has, which sheet an index means.
use Rattle.std.proofs.Common.{◌≡◌, ◌∙◌, ℕ, zero, suc, ℤ, ◌+◌, ◌<◌, List, [], ◌∷◌, map, Bool, true, false, cond, Some, None, option_map, option_and_then, length, refl, sym, ap, ap₂, arith}
use Rattle.std.specs.Prelude.{find, nat_lt, not, position}
use Rattle.std.specs.BTreeMap.{is_at}
use Rattle.std.specs.FinMap as finite
use Rattle.std.specs.List.{prefix_len, slice_get}
use Rattle.std.specs.Ordering.{eq_by_cmp}
use Rattle.std.proofs.lemmas.List.{length-map}
use Rattle.std.specs.Map.{lookup}
use Rattle.ic_laws.proofs.core.CellWritten.{place_cmp_total}
use Rattle.ic_laws.proofs.core.KeptBook.{mentioned}
use Rattle.ic_laws.specs.CoreBook.{CellPlace, formula_at, place_cmp}
use Rattle.ic_laws.specs.declared.scene.SheetName.{SheetName}
use Rattle.ic_laws.specs.declared.tree.Formula.{Formula}
use Rattle.ic_cells.specs.Cell.{cell_formula_index}
use Rattle.ic_cells.specs.declared.cell.Cell.{Cell}
use Rattle.ic_grid.specs.Contents.{Contents}
use Rattle.ic_machine.proofs.as_core.FormulaLemmas.{find-made}
use Rattle.ic_sheets.specs.Sheet.{cells_of, formula_in, sheet_core, sheet_of}
use Rattle.ic_sheets.specs.declared.sheet.Sheet.{Sheet as HeldSheet}
use Rattle.ic_parts.specs.Scene.{named}

pub find-map : {X Y : Type 0} (f : X → Y) (p : Y → Bool) (xs : List X) → find p (map f xs) ≡ option_map f (find (λ x. p (f x)) xs)
find-map f p [] = refl
find-map {X} {Y} f p (x ∷ xs) =
    elim (p (f x)) as (λ b. cond b (Some (f x)) (find p (map f xs)) ≡ option_map f (cond b (Some x) (find (λ y. p (f y)) xs))) [ true ↦ refl | false ↦ find-map f p xs ]

-- what the formulas of a book with these sheets can mention
pub scene_is : (sheets : List HeldSheet) → map named sheets ≡ map mentioned (map sheet_core (map sheet_of sheets))
scene_is [] = refl
scene_is (s ∷ sheets) = ap (λ rest. let m : SheetName = named s in m ∷ rest) (scene_is sheets)

-- the formula that a core has at a place is that of the cell there
lookup_is : (q : CellPlace) (es : List (CellPlace × Formula)) → lookup (is_at (place_cmp q)) es ≡ finite.find place_cmp q es
lookup_is q [] = refl
lookup_is q (e ∷ es) = ap (cond (eq_by_cmp place_cmp q e.0) (Some e.1)) (lookup_is q es)

pub formula_by_cell : (pool : List Formula) (cells : Contents Cell) (row column : ℤ)
    → formula_at (cells_of pool (finite.entries cells)) row column ≡ option_map (formula_in pool) (option_and_then cell_formula_index (finite.get cells (row, column)))
formula_by_cell pool cells row column =
    lookup_is (row, column) (cells_of pool (finite.entries cells))
    ∙ find-made place_cmp cell_formula_index (formula_in pool) place_cmp_total (row, column) (finite.entries cells) (finite.entries_sorted cells)
    ∙ ap (λ o. option_map (formula_in pool) (option_and_then cell_formula_index o)) (sym (finite.get-entries cells (row, column)))

-- a formula at a place of the pool
pub got_formula : (pool : List Formula) (at : ℕ) → at < length pool → slice_get pool at ≡ Some (formula_in pool at)
got_formula [] at lt = absurd (omega arith)
got_formula (x ∷ pool) zero lt = refl
got_formula (x ∷ pool) (suc at) lt = got_formula pool at (omega arith)

prefix_len-map : {X Y : Type 0} (f : X → Y) (p : Y → Bool) (xs : List X) → prefix_len p (map f xs) ≡ prefix_len (λ x. p (f x)) xs
prefix_len-map f p [] = refl
prefix_len-map f p (x ∷ xs) = ap (λ n. cond (p (f x)) (1 + n) 0) (prefix_len-map f p xs)

-- the first place of an item that passes, where items are seen through f
pub position-map : {X Y : Type 0} (f : X → Y) (p : Y → Bool) (xs : List X) → position p (map f xs) ≡ position (λ x. p (f x)) xs
position-map f p xs = ap₂ (λ n m. cond (nat_lt n m) (Some n) None) (prefix_len-map f (λ y. not (p y)) xs) (length-map xs f)
