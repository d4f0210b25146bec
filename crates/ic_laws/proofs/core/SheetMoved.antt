-- A book stays valid when a sheet is put at another place.
use Rattle.std.proofs.Common.{◌≡◌, ℕ, ℤ, zero, suc, ◌<◌, List, [], ◌∷◌, Option, Some, slice_get, pos, refl, ap, sym, subst, length, arith, nat_eq}
use Rattle.std.specs.Cmp.{nat_eq_equiv}
use Rattle.std.specs.List.{AllByRecursion, insert, remove}
use Rattle.std.specs.List.Sorted.{IsPermutation}
use Rattle.std.proofs.lemmas.List.Elements.{All-from_recursion, recursion_from_All}
use Rattle.std.proofs.lemmas.List.Sorted.{All-permutation, IsPermutation-insert, IsPermutation-map, IsPermutation-sym, IsPermutation-trans, length_permutation}
use Rattle.std.proofs.lemmas.Map.Keys.{IsDistinct-IsPermutation}
use Rattle.ic_laws.proofs.CoreLemmas.{agrees_equiv}
use Rattle.ic_laws.proofs.core.Made.{made_valid}
use Rattle.ic_laws.specs.CoreBook.{Cells, CoreBook, Definition, Sheet, ids_of, names_of, scene_of}
use Rattle.ic_laws.specs.CoreStep.{moved, put_back}
use Rattle.ic_laws.specs.Name.{agrees}
use Rattle.ic_laws.specs.Notations.{Notations}
use Rattle.ic_laws.specs.Tree.{Bound}
use Rattle.ic_laws.specs.ValidCore.{IsKept, IsKeptCell, IsKeptFormula, IsValidCore, IsValidDefinition, IsValidSheet}
use Rattle.ic_laws.specs.declared.scene.Scene.{Scene}
use Rattle.ic_laws.specs.declared.tree.Formula.{Formula}
use Rattle.ic_laws.specs.declared.tree.Formula.TheVariants as formulas

-- an index below the length has an item
pub item_at : {X : Type 0} (xs : List X) (i : ℕ) → i < length xs → (x : X) × (slice_get xs i ≡ Some x)
item_at [] i h = absurd (omega arith)
item_at (x ∷ xs) zero h = (x, refl)
item_at (x ∷ xs) (suc i) h = item_at xs i (omega arith)

-- what is taken out and put back stands where it stood
pub back_again : {X : Type 0} (xs : List X) (i : ℕ) (x : X) → slice_get xs i ≡ Some x → insert (remove xs i) i x ≡ xs
back_again [] i x e = cc
back_again (y ∷ xs) zero x e = let same : x ≡ y = cc in ap (λ z. z ∷ xs) same
back_again (y ∷ xs) (suc i) x e = ap (λ r. y ∷ r) (back_again xs i x e)

-- a moved item changes the order alone
pub moved_permutes : {X : Type 0} (xs : List X) (from to : ℕ) → from < length xs → IsPermutation xs (moved from to xs)
moved_permutes xs from to h =
    let at = item_at xs from h in
    let x = at.0 in
    let out : IsPermutation xs (x ∷ remove xs from) =
    IsPermutation-sym (x ∷ remove xs from) xs (subst (IsPermutation (x ∷ remove xs from)) (back_again xs from x at.1) (IsPermutation-insert (remove xs from) from x)) in
    subst (λ (o : Option _). IsPermutation xs (put_back to (remove xs from) o)) (sym at.1)
    (IsPermutation-trans xs (x ∷ remove xs from) (insert (remove xs from) to x) out (IsPermutation-insert (remove xs from) to x))

-- what is kept in one scene is kept in the other
abbrev pub KeepsAlike : Notations → Scene → Scene → Type 0
KeepsAlike n before after = (scope : Option ℕ) (row column : ℤ) (t : Bound) → IsKept n before scope row column t → IsKept n after scope row column t

module _ (n : Notations) (before after : Scene) (alike : KeepsAlike n before after) where
  formula_alike : (scope : Option ℕ) (row column : ℤ) (formula : Formula) → IsKeptFormula n before scope row column formula → IsKeptFormula n after scope row column formula
  formula_alike scope row column (formulas.Tree t) h = alike scope row column t h
  formula_alike scope row column (formulas.Raw text) h = tt

  cells_alike : (id : ℕ) (cells : Cells) → AllByRecursion (IsKeptCell n before id) cells → AllByRecursion (IsKeptCell n after id) cells
  cells_alike id [] h = tt
  cells_alike id (cell ∷ cells) h = (record { inside = h.0.inside; formula = formula_alike (Some id) cell.0.0 cell.0.1 cell.1 h.0.formula }, cells_alike id cells h.1)

  pub sheets_alike : (sheets : List Sheet) → AllByRecursion (IsValidSheet n before) sheets → AllByRecursion (IsValidSheet n after) sheets
  sheets_alike [] h = tt
  sheets_alike (s ∷ sheets) h = (record { id = h.0.id; name = h.0.name; ordered = h.0.ordered; cells = cells_alike s.id s.cells h.0.cells }, sheets_alike sheets h.1)

  pub definitions_alike : (definitions : List Definition) → AllByRecursion (IsValidDefinition n before) definitions → AllByRecursion (IsValidDefinition n after) definitions
  definitions_alike [] h = tt
  definitions_alike (d ∷ definitions) h = (record { name = h.0.name; scope = h.0.scope; body = formula_alike d.scope (pos 1) (pos 1) d.body h.0.body }, definitions_alike definitions h.1)

module _ (n : Notations) (book : CoreBook) (from to : ℕ) (valid : IsValidCore n book) (inside : from < length book.sheets) where
  abbrev pub put : CoreBook
  put = record book { sheets = moved from to book.sheets }

  permuted : IsPermutation book.sheets (moved from to book.sheets)
  permuted = moved_permutes book.sheets from to inside

  pub moved_valid : KeepsAlike n (scene_of book) (scene_of put) → IsValidCore n put
  moved_valid alike =
      made_valid n put (scene_of put) refl (omega (arith, valid.some_sheet, length_permutation book.sheets (moved from to book.sheets) permuted))
      (recursion_from_All (IsValidSheet n (scene_of put)) (moved from to book.sheets)
      (All-permutation (IsValidSheet n (scene_of put)) book.sheets (moved from to book.sheets) permuted
      (All-from_recursion (IsValidSheet n (scene_of put)) book.sheets (sheets_alike n (scene_of book) (scene_of put) alike book.sheets valid.sheets))))
      (definitions_alike n (scene_of book) (scene_of put) alike book.definitions valid.definitions)
      (IsDistinct-IsPermutation nat_eq nat_eq_equiv.symm (ids_of book) (ids_of put) (IsPermutation-map (λ (s : Sheet). s.id) book.sheets (moved from to book.sheets) permuted) valid.ids_differ)
      (IsDistinct-IsPermutation agrees agrees_equiv.symm (names_of book) (names_of put) (IsPermutation-map (λ (s : Sheet). s.name) book.sheets (moved from to book.sheets) permuted) valid.names_differ)
      valid.keys_differ valid.locale valid.language
