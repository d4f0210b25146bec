-- A book stays valid when a cell gets a formula that is kept there: its cells stay in order.
use Rattle.std.proofs.Common.{◌≡◌, ℕ, ℤ, List, [], ◌∷◌, map, true, refl, ap, sym, subst, ◌∙◌, arith, nat_eq, Some}
use Rattle.std.specs.BTreeMap.{insert_entry}
use Rattle.std.specs.Cmp.{IsTotalOrder, int_cmp_total, on_total, then_total}
use Rattle.std.specs.FinMap.{int_cmp-IsAntisymmetric}
use Rattle.std.specs.List.{AllByRecursion, IsDistinct}
use Rattle.std.specs.List.Sorted.{IsStrictlySortedBy}
use Rattle.std.specs.Ordering.{int_cmp, match_ordering, ordering_reverse, ordering_then}
use Rattle.std.specs.declared.cmp.Ordering.{Ordering}
use Rattle.std.specs.declared.cmp.Ordering.TheVariants.{Less, Equal, Greater}
use Rattle.ic_laws.proofs.core.KeptBook.{mentioned}
use Rattle.ic_laws.proofs.core.Lists.{all_updated, length_updated, updated_unseen}
use Rattle.ic_laws.proofs.core.Made.{made_valid}
use Rattle.ic_laws.specs.CoreBook.{Cells, CellPlace, CoreBook, Sheet, place_cmp, scene_of, spelling_of, with_formula_at}
use Rattle.ic_laws.specs.CoreStep.{updated_at}
use Rattle.ic_laws.specs.Name.{agrees}
use Rattle.ic_laws.specs.Notations.{Notations, is_cell}
use Rattle.ic_laws.specs.ValidCore.{IsKeptCell, IsKeptFormula, IsValidCore, IsValidSheet}
use Rattle.ic_laws.specs.declared.scene.Scene.{Scene}
use Rattle.ic_laws.specs.declared.scene.SheetName.{SheetName}
use Rattle.ic_laws.specs.declared.tree.Formula.{Formula}

pub place_cmp_total : IsTotalOrder place_cmp
place_cmp_total = then_total (on_total (λ (p : CellPlace). p.0) int_cmp_total) (on_total (λ (p : CellPlace). p.1) int_cmp_total)

-- two places that tie are one
pub place_tied : (a b : CellPlace) → place_cmp a b ≡ Equal → a ≡ b
place_tied a b e =
    elim (int_cmp a.0 b.0) as (λ r. int_cmp a.0 b.0 ≡ r → ordering_then r (int_cmp a.1 b.1) ≡ Equal → a ≡ b) [
      | Less ↦ λ p no. cc
      | Equal ↦ λ p same. λ i. (int_cmp-IsAntisymmetric a.0 b.0 p i, int_cmp-IsAntisymmetric a.1 b.1 same i)
      | Greater ↦ λ p no. cc
    ] refl e

below_all : {K : Type 0} (R : K → K → Ordering) (o : IsTotalOrder R) (x y : K) (ks : List K) → R x y ≡ Less → AllByRecursion (λ z. R y z ≡ Less) ks → AllByRecursion (λ z. R x z ≡ Less) ks
below_all R o x y [] p h = tt
below_all R o x y (k ∷ ks) p h = (o.trans x y k p h.0, below_all R o x y ks p h.1)

module _ {K X : Type 0} (R : K → K → Ordering) (o : IsTotalOrder R) where
  abbrev keys : List (K × X) → List K
  keys entries = map (λ (e : K × X). e.0) entries

  below_more : (x k : K) (v : X) (es : List (K × X)) → R x k ≡ Less → AllByRecursion (λ y. R x y ≡ Less) (keys es) → AllByRecursion (λ y. R x y ≡ Less) (keys (insert_entry R es k v))
  below_more x k v [] p h = (p, tt)
  below_more x k v (e ∷ es) p h =
      elim (R k e.0) as (λ r. AllByRecursion (λ y. R x y ≡ Less) (keys (match_ordering r ((k, v) ∷ e ∷ es) ((e.0, v) ∷ es) (e ∷ insert_entry R es k v)))) [
        | Less ↦ (p, h)
        | Equal ↦ h
        | Greater ↦ (h.0, below_more x k v es p h.1)
      ]

  pub ordered_insert : (es : List (K × X)) (k : K) (v : X) → IsStrictlySortedBy R (keys es) → IsStrictlySortedBy R (keys (insert_entry R es k v))
  unfolding IsStrictlySortedBy
  ordered_insert [] k v h = (tt, tt)
  ordered_insert (e ∷ es) k v h =
      elim (R k e.0) as (λ r. R k e.0 ≡ r → IsStrictlySortedBy R (keys (match_ordering r ((k, v) ∷ e ∷ es) ((e.0, v) ∷ es) (e ∷ insert_entry R es k v)))) [
        | Less ↦ λ p. ((p, below_all R o k e.0 (keys es) p h.0), h)
        | Equal ↦ λ p. h
        | Greater ↦ λ p. (below_more e.0 k v es (o.antisymm e.0 k ∙ ap ordering_reverse p) h.0, ordered_insert es k v h.1)
      ] refl

-- each cell is valid where the new one is
cells_written : (n : Notations) (scene : Scene) (id : ℕ) (place : CellPlace) (formula : Formula) (cells : Cells) → AllByRecursion (IsKeptCell n scene id) cells → IsKeptCell n scene id (place, formula) → AllByRecursion (IsKeptCell n scene id) (insert_entry place_cmp cells place formula)
cells_written n scene id place formula [] h new = (new, tt)
cells_written n scene id place formula (cell ∷ cells) h new =
    elim (place_cmp place cell.0) as (λ r. place_cmp place cell.0 ≡ r → AllByRecursion (IsKeptCell n scene id) (match_ordering r ((place, formula) ∷ cell ∷ cells) ((cell.0, formula) ∷ cells) (cell ∷ insert_entry place_cmp cells place formula))) [
      | Less ↦ λ p. (new, h)
      | Equal ↦ λ p. (subst (λ (at : CellPlace). IsKeptCell n scene id (at, formula)) (place_tied place cell.0 p) new, h.1)
      | Greater ↦ λ p. (h.0, cells_written n scene id place formula cells h.1 new)
    ] refl

-- the formula that a sheet gets, by the sheet's id
module _ (n : Notations) (book : CoreBook) (index : ℕ) (row column : ℤ) (formula : ℕ → Formula) (valid : IsValidCore n book) (inside : is_cell row column ≡ true) (is_kept : (id : ℕ) → IsKeptFormula n (scene_of book) (Some id) row column (formula id)) where
  abbrev writes : Sheet → Sheet
  writes sheet = record sheet { cells = with_formula_at sheet.cells row column (formula sheet.id) }

  abbrev written : CoreBook
  written = record book { sheets = updated_at writes index book.sheets }

  pub written_valid : IsValidCore n written
  written_valid =
      made_valid n written (scene_of book) (ap (λ (x : List SheetName). record { sheets = x; names = map spelling_of book.definitions }) (updated_unseen mentioned writes (λ s. refl) index book.sheets))
      (omega (arith, valid.some_sheet, length_updated writes index book.sheets))
      (all_updated (IsValidSheet n (scene_of book)) writes
      (λ s h. record {
        id = h.id;
        name = h.name;
        ordered = ordered_insert place_cmp place_cmp_total s.cells (row, column) (formula s.id) h.ordered;
        cells = cells_written n (scene_of book) s.id (row, column) (formula s.id) s.cells h.cells (record { inside = inside; formula = is_kept s.id });
      }) index book.sheets valid.sheets)
      valid.definitions
      (subst (IsDistinct nat_eq) (sym (updated_unseen (λ (s : Sheet). s.id) writes (λ s. refl) index book.sheets)) valid.ids_differ)
      (subst (IsDistinct agrees) (sym (updated_unseen (λ (s : Sheet). s.name) writes (λ s. refl) index book.sheets)) valid.names_differ)
      valid.keys_differ valid.locale valid.language
