-- The pool of a sheet and its cells: what its core is, over a change of the book and when a formula gets its place.
use Rattle.std.proofs.Common.{◌≡◌, ℕ, zero, suc, ◌<◌, ◌≤◌, List, [], ◌∷◌, ◌++◌, map, length, Option, Some, None, refl, sym, ap, ap₂, subst, ◌∙◌, arith, length-append, inl, inr, ◌⊎◌}
use Rattle.std.specs.FinMap as finite
use Rattle.std.specs.List.{AllByRecursion, slice_get}
use Rattle.std.specs.Option.{option_to_list}
use Rattle.std.specs.Prelude.{option_map, unwrap_or}
use Rattle.std.proofs.lemmas.List.{map-append}
use Rattle.ic_laws.proofs.keeping.Kept.{Become, kept_becomes}
use Rattle.ic_laws.proofs.kept.Kept.{english_by_fold}
use Rattle.ic_laws.specs.BookTrees.{with_tree}
use Rattle.ic_laws.specs.Changes.{Change, changed_local, changed_sheet, changed_tree, changed_word}
use Rattle.ic_laws.specs.CoreBook as core
use Rattle.ic_laws.specs.CoreBook.{CellPlace, Cells}
use Rattle.ic_laws.specs.Keeping.{kept_formula, kept_on_sheet, mapped_cells, same_keys}
use Rattle.ic_laws.specs.Notations.{AreNotations, Notations, english_function}
use Rattle.ic_laws.specs.Tree.{Bound}
use Rattle.ic_laws.specs.ValidCore.{IsPooled}
use Rattle.ic_laws.specs.declared.scene.Scene.{Scene}
use Rattle.ic_laws.specs.declared.tree.Formula.{Formula}
use Rattle.ic_laws.specs.declared.tree.Formula.TheVariants as formulas
use Rattle.ic_cells.specs.Cell.{cell_formula_index}
use Rattle.ic_cells.specs.declared.cell.Cell.{Cell}
use Rattle.ic_sheets.specs.Sheet.{Sheet, cell_of, cells_of, formula_in, kept_pool, sheet_core}
use Rattle.ic_pool.proofs.PlacedLemmas.{first_found}
use Rattle.ic_pool.specs.Code.{code}
use Rattle.ic_pool.specs.Pool.{EndsWithNew, IsPlaced, first_place}
use Rattle.ic_laws.proofs.General.{in_front as got_in_front}

-- formulas that are replaced, each by its own ----

pub formula_in-map : (f : Formula → Formula) → f (formulas.Raw []) ≡ formulas.Raw [] → (pool : List Formula) (at : ℕ) → formula_in (map f pool) at ≡ f (formula_in pool at)
formula_in-map f blank [] at = sym blank
formula_in-map f blank (x ∷ pool) zero = refl
formula_in-map f blank (x ∷ pool) (suc at) = formula_in-map f blank pool at

-- a cell with its formula, if it has one
abbrev one_cell : List Formula → CellPlace → Option ℕ → Cells
one_cell pool place o = option_to_list (option_map (λ at. (place, formula_in pool at)) o)

one_cell-map : (f : Formula → Formula) → f (formulas.Raw []) ≡ formulas.Raw [] → (pool : List Formula) (place : CellPlace) (o : Option ℕ)
    → one_cell (map f pool) place o ≡ mapped_cells f (one_cell pool place o)
one_cell-map f blank pool place None = refl
one_cell-map f blank pool place (Some at) = ap (λ (g : Formula). let all : Cells = (place, g) ∷ [] in all) (formula_in-map f blank pool at)

pub cells_of-map : (f : Formula → Formula) → f (formulas.Raw []) ≡ formulas.Raw [] → (pool : List Formula) (entries : List (CellPlace × Cell)) → cells_of (map f pool) entries ≡ mapped_cells f (cells_of pool entries)
cells_of-map f blank pool [] = refl
cells_of-map f blank pool (e ∷ es) =
    ap₂ (λ (a b : Cells). let all : Cells = a ++ b in all) (one_cell-map f blank pool e.0 (cell_formula_index e.1)) (cells_of-map f blank pool es)
    ∙ sym (map-append (λ (cell : CellPlace × Formula). (cell.0, f cell.1)) (cell_of pool e) (cells_of pool es))

-- over a change of the book ----

module _ (n : Notations) (before after : Scene) where
  sheet_core-kept : (sheet : Sheet) → sheet_core (kept_pool n before after sheet) ≡ kept_on_sheet n before after same_keys (sheet_core sheet)
  sheet_core-kept sheet =
      ap (λ (cells : Cells). let s : core.Sheet = record { id = sheet.id; name = sheet.name; cells = cells } in s)
      (cells_of-map (kept_formula (english_function n) before after same_keys (Some sheet.id)) refl sheet.pool (finite.entries sheet.grid.cells))

  pub sheet_cores-kept : (sheets : List Sheet) → map sheet_core (map (kept_pool n before after) sheets) ≡ map (kept_on_sheet n before after same_keys) (map sheet_core sheets)
  sheet_cores-kept [] = refl
  sheet_cores-kept (s ∷ sheets) = ap₂ ◌∷◌ (sheet_core-kept s) (sheet_cores-kept sheets)

  -- what is kept of a formula in a pool is what a change makes of it, where that is what mentions become
  module _ (are : AreNotations n) (change : Change) (become : (scope : Option ℕ) → Become before after scope (changed_sheet change) (changed_word change scope) (changed_local change)) where
    formula_changed : (scope : Option ℕ) (formula : Formula) → IsPooled n before scope formula → kept_formula (english_function n) before after same_keys scope formula ≡ with_tree (changed_tree change scope) formula
    formula_changed scope (formulas.Tree t) h =
        ap (λ (u : Bound). let g : Formula = formulas.Tree u in g)
        (kept_becomes (english_function n) before after scope (changed_sheet change) (changed_word change scope) (changed_local change) (become scope) (english_by_fold n are) t h.settled)
    formula_changed scope (formulas.Raw text) h = refl

    pub pool_changed : (scope : Option ℕ) (pool : List Formula) → AllByRecursion (IsPooled n before scope) pool → map (kept_formula (english_function n) before after same_keys scope) pool ≡ map (with_tree (changed_tree change scope)) pool
    pool_changed scope [] h = refl
    pool_changed scope (x ∷ pool) h = ap₂ ◌∷◌ (formula_changed scope x h.0) (pool_changed scope pool h.1)

-- when a formula is written ----

got_within : {X : Type 0} (xs : List X) (at : ℕ) (x : X) → slice_get xs at ≡ Some x → at < length xs
got_within [] at x e = cc
got_within (y ∷ xs) zero x e = omega arith
got_within (y ∷ xs) (suc at) x e = let lt = got_within xs at x e in omega arith

split_at : (m n : ℕ) → (m < n) ⊎ (n ≤ m)
split_at m zero = inr (omega arith)
split_at zero (suc n) = inl (omega arith)
split_at (suc m) (suc n) = elim (split_at m n) [ inl lt ↦ inl (omega arith) | inr le ↦ inr (omega arith) ]

-- what a pool has after a formula got its place
pub record HasPlaced (formula : Formula) (at : ℕ) (before after : List Formula) : Type 0 where
  pub here : formula_in after at ≡ formula
  pub within : at < length after
  pub longer : length before ≤ length after
  pub others : (k : ℕ) → k < length before → formula_in after k ≡ formula_in before k

pub has_placed : (formula : Formula) (at : ℕ) (before after : List Formula) → IsPlaced formula at before after → HasPlaced formula at before after
has_placed formula at before after p =
    let here = ap (λ o. unwrap_or o (formulas.Raw [])) p.first.here in
    let within = got_within after at formula p.first.here in
    elim (split_at at (length before)) [
      | inl lt ↦
          let same = p.found lt in
          record { here = here; within = within; longer = (let e = ap length same in omega arith); others = λ k h. ap (λ pool. formula_in pool k) same }
      | inr le ↦
          let more = p.pushed le in
          record {
            here = here;
            within = within;
            longer = (let e : length after ≡ length (before ++ formula ∷ []) = ap length more in omega (arith, e, length-append before (formula ∷ [])));
            others = λ k h. ap (λ pool. formula_in pool k) more ∙ ap (λ o. unwrap_or o (formulas.Raw [])) (got_in_front before (formula ∷ []) k h);
          }
    ]

-- where it got a place that wasn't there before, it stands last, and nowhere else
module _ (formula : Formula) (at : ℕ) (before after : List Formula) (p : IsPlaced formula at before after) where
  pub put_last : length before < length after → after ≡ before ++ formula ∷ []
  put_last longer =
      elim (split_at at (length before)) [
        | inl lt ↦ absurd (let e : length after ≡ length before = ap length (p.found lt) in omega (arith, e, longer))
        | inr le ↦ p.pushed le
      ]

  pub none_put : length after ≤ length before → after ≡ before
  none_put no_longer =
      elim (split_at at (length before)) [
        | inl lt ↦ p.found lt
        | inr le ↦ absurd (let e : length after ≡ length (before ++ formula ∷ []) = ap length (p.pushed le) in omega (arith, e, length-append before (formula ∷ []), no_longer))
      ]

  pub ends_new : (key : List ℕ) → key ≡ code formula → length before < length after → EndsWithNew key after
  ends_new key same longer = record {
    before = before;
    formula = formula;
    is = put_last longer;
    its = same;
    fresh = ap (λ k. first_place k before) same ∙ by_place (split_at at (length before)) (first_place (code formula) before) refl;
  }
    where
      by_place : (at < length before) ⊎ (length before ≤ at) → (o : Option ℕ) → first_place (code formula) before ≡ o → first_place (code formula) before ≡ None
      by_place found None e = e
      by_place (inl lt) (Some k) e = absurd (let same_length : length after ≡ length before = ap length (p.found lt) in omega (arith, same_length, longer))
      by_place (inr le) (Some k) e =
          let first = first_found formula before k e in
          let lt : k < length before = got_within before k formula first.here in
          absurd
          (p.first.none_before k (omega (arith, lt, le))
          (subst (λ xs. slice_get xs k ≡ Some formula) (sym (p.pushed le)) (got_in_front before (formula ∷ []) k lt ∙ first.here)))

-- a place is one of so many, if there is one
abbrev pub IsBelow : ℕ → Option ℕ → Type 0
IsBelow count None = Unit {0}
IsBelow count (Some at) = at < count

one_same : (before after : List Formula) → ((k : ℕ) → k < length before → formula_in after k ≡ formula_in before k) → (place : CellPlace) (o : Option ℕ) → IsBelow (length before) o
    → one_cell after place o ≡ one_cell before place o
one_same before after same place None h = refl
one_same before after same place (Some at) h = ap (λ (g : Formula). let all : Cells = (place, g) ∷ [] in all) (same at h)

pub cells_same : (before after : List Formula) → ((k : ℕ) → k < length before → formula_in after k ≡ formula_in before k) → (entries : List (CellPlace × Cell))
    → AllByRecursion (λ (e : CellPlace × Cell). IsBelow (length before) (cell_formula_index e.1)) entries → cells_of after entries ≡ cells_of before entries
cells_same before after same [] h = refl
cells_same before after same (e ∷ es) h =
    ap₂ (λ (a b : Cells). let all : Cells = a ++ b in all) (one_same before after same e.0 (cell_formula_index e.1) h.0) (cells_same before after same es h.1)

pub all_placed : (P : Formula → Type 0) (formula : Formula) (at : ℕ) (before after : List Formula) → IsPlaced formula at before after → P formula → AllByRecursion P before → AllByRecursion P after
all_placed P formula at before after p new h =
    elim (split_at at (length before)) [
      | inl lt ↦ subst (AllByRecursion P) (sym (p.found lt)) h
      | inr le ↦ subst (AllByRecursion P) (sym (p.pushed le)) (pushed before h)
    ]
  where
    pushed : (xs : List Formula) → AllByRecursion P xs → AllByRecursion P (xs ++ formula ∷ [])
    pushed [] h = (new, tt)
    pushed (x ∷ xs) h = (h.0, pushed xs h.1)
