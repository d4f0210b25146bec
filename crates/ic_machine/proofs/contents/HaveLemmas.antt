-- What holds of each thing that stands in a place of a sheet, and of what becomes of it alone, still does after a block is
-- cleared, a formula gets a value, or an array its values.
use Rattle.std.proofs.Common.{◌≡◌, ◌∙◌, refl, sym, ap, subst, ℤ, pos, Bool, true, false, cond, List, [], ◌∷◌, Option, Some, None, inl, inr}
use Rattle.std.proofs.lemmas.Bool.{cases_Bool}
use Rattle.std.specs.FinMap as finite
use Rattle.ic_laws.proofs.core.CellWritten.{place_cmp_total}
use Rattle.ic_cells.specs.declared.value.FormulaValue.{FormulaValue}
use Rattle.ic_cells.specs.declared.value.FormulaValue.TheVariants as fvalues
use Rattle.ic_cells.specs.declared.value.SpillValue.{SpillValue}
use Rattle.ic_grid.proofs.ContentsLemmas.{get-remade, same_is}
use Rattle.ic_grid.specs.Arrays.{array_at, reaches}
use Rattle.ic_grid.specs.Block.{Place, first_place, is_in_block, next_place, same_place}
use Rattle.ic_grid.specs.Clear.{cleared, wiped}
use Rattle.ic_grid.specs.Contents.{Contents, remade}
use Rattle.ic_grid.specs.Prepare.{loosened, loosened_in, unspilled, without_spill}
use Rattle.ic_grid.specs.Shape.{Holding, emptied, gathered, is_anchor, is_spill_of, reset, spread}
use Rattle.ic_grid.specs.Spill.{filled, spilled, with_first}
use Rattle.ic_grid.specs.Style.{Columns, Rows, style_at}
use Rattle.ic_grid.specs.Value.{is_cse_anchor, shape_at, valued, valued_cell}
use Rattle.ic_grid.specs.declared.block.Block.{Block}
use Rattle.ic_laws.proofs.General.{chained as there}

module _ {X : Type 0} (h : Holding X) (P : Place → X → Type 0) where
  -- it holds of all that stands somewhere
  abbrev pub AllHave : Contents X → Type 0
  AllHave m = (q : Place) (x : X) → finite.get m q ≡ Some x → P q x

  -- and of what a thing is made into
  pub record IsPassedOn : Type 0 where
    pub to_empty : (q : Place) (x : X) → P q x → P q (emptied h x)
    pub to_valued : (q : Place) (x : X) (value : FormulaValue) → P q x → P q (h.with_value value x)
    pub to_widened : (q : Place) (x : X) (width height : ℤ) → P q x → P q (h.with_area width height x)
    pub to_spill : (q : Place) (x : X) (a : Place) (value : SpillValue) → P q x → P q (h.spill (h.style x) a value)

  -- and of a cell of a spill in the style of its place
  abbrev pub IsOfSpills : Rows → Columns → Type 0
  IsOfSpills rows columns = (m : Contents X) → AllHave m → (q a : Place) (value : SpillValue) → P q (h.spill (style_at h m rows columns q) a value)

  pub all_remade : (j : Place → X → Option X) → ((q : Place) (x : X) → P q x → (y : X) → j q x ≡ Some y → P q y) → (m : Contents X) → AllHave m → AllHave (remade j m)
  all_remade j step m all q y e = let x = there (j q) (finite.get m q) y (sym (get-remade j m q) ∙ e) in step q x.0 (all q x.0 x.1) y x.2

  pub all_put : (m : Contents X) (p : Place) (x : X) → AllHave m → P p x → AllHave (finite.insert m p x)
  all_put m p x all new q y e = elim (cases_Bool (same_place q p)) [
    | inl t ↦
        let some : Some x ≡ Some y = ap (λ (s : Bool). cond s (Some x) (finite.get m q)) (sym t) ∙ sym (finite.get-insert place_cmp_total m p x q) ∙ e in
        let same : x ≡ y = cc in
        subst (λ (z : X). P q z) same (subst (λ (r : Place). P r x) (sym (same_is q p t)) new)
    | inr f ↦ all q y (ap (λ (s : Bool). cond s (Some x) (finite.get m q)) (sym f) ∙ sym (finite.get-insert place_cmp_total m p x q) ∙ e)
  ]

  either : (t : Bool) (q : Place) (x y : X) → P q x → P q y → P q (cond t x y)
  either true q x y p r = p
  either false q x y p r = r

  made_so : (q : Place) (x y : X) → P q x → (let o : Option X = Some x in o ≡ Some y) → P q y
  made_so q x y p e = let same : x ≡ y = cc in subst (λ (z : X). P q z) same p

  module _ (on : IsPassedOn) where
    to_reset : (q : Place) (x : X) → P q x → P q (reset h x)
    to_reset q x p = on.to_widened q (h.with_value fvalues.Unevaluated x) (pos 1) (pos 1) (on.to_valued q x fvalues.Unevaluated p)

    to_loosened : (q : Place) (x : X) → P q x → P q (loosened h x)
    to_loosened q x p = either (is_anchor (h.shape x)) q (reset h x) (emptied h x) (to_reset q x p) (on.to_empty q x p)

    to_unspilled : (a q : Place) (x : X) → P q x → P q (unspilled h a x)
    to_unspilled a q x p = either (is_spill_of a (h.shape x)) q (emptied h x) x (on.to_empty q x p) p

    of_wiped : (all : Bool) (q : Place) (x y : X) → P q x → wiped h all x ≡ Some y → P q y
    of_wiped true q x y p e = cc
    of_wiped false q x y p e = made_so q (emptied h x) y (on.to_empty q x p) e

    of_cleared : (s t all : Bool) (q : Place) (x y : X) → P q x → cond s (wiped h all x) (Some (cond t (loosened h x) x)) ≡ Some y → P q y
    of_cleared true t all q x y p e = of_wiped all q x y p e
    of_cleared false t all q x y p e = made_so q (cond t (loosened h x) x) y (either t q (loosened h x) x (to_loosened q x p) p) e

    pub all_cleared : (b : Block) (all : Bool) (m : Contents X) → AllHave m → AllHave (cleared h b all m)
    all_cleared b all m have = all_remade _ (λ q x p y e. of_cleared (is_in_block b q) (reaches b (array_at h m q)) all q x y p e) m have

    to_valued_cell : (cse : Bool) (value : FormulaValue) (a q : Place) (x : X) → P q x → P q (valued_cell h cse value a q x)
    to_valued_cell cse value a q x p =
        either (same_place q a) q (h.with_value value (cond cse x (h.with_area (pos 1) (pos 1) x))) (cond (is_spill_of a (h.shape x)) (cond cse (h.spill (h.style x) a (spread value)) (emptied h x)) x)
        (on.to_valued q (cond cse x (h.with_area (pos 1) (pos 1) x)) value (either cse q x (h.with_area (pos 1) (pos 1) x) p (on.to_widened q x (pos 1) (pos 1) p)))
        (either (is_spill_of a (h.shape x)) q (cond cse (h.spill (h.style x) a (spread value)) (emptied h x)) x
        (either cse q (h.spill (h.style x) a (spread value)) (emptied h x) (on.to_spill q x a (spread value) p) (on.to_empty q x p)) p)

    pub all_valued : (a : Place) (value : FormulaValue) (m : Contents X) → AllHave m → AllHave (valued h a value m)
    all_valued a value m have =
        all_remade _ (λ q x p y e. made_so q (valued_cell h (is_cse_anchor (shape_at h m a)) value a q x) y (to_valued_cell (is_cse_anchor (shape_at h m a)) value a q x p) e) m have

    all_without : (a : Place) (m : Contents X) → AllHave m → AllHave (without_spill h a m)
    all_without a m have = all_remade _ (λ q x p y e. made_so q (unspilled h a x) y (to_unspilled a q x p) e) m have

    pub all_loosened : (b : Block) (m : Contents X) → AllHave m → AllHave (loosened_in h b m)
    all_loosened b m have =
        all_remade _ (λ q x p y e. made_so q (cond (reaches b (array_at h m q)) (loosened h x) x) y (either (reaches b (array_at h m q)) q (loosened h x) x (to_loosened q x p) p) e) m have

    module _ (rows : Rows) (columns : Columns) (of_spills : IsOfSpills rows columns) (b : Block) where
      all_filled : (vs : List SpillValue) (q : Place) (m : Contents X) → AllHave m → AllHave (filled h rows columns b q vs m)
      all_filled [] q m have = have
      all_filled (v ∷ vs) q m have =
          all_filled vs (next_place b q) (finite.insert m q (h.spill (style_at h m rows columns q) (first_place b) v))
          (all_put m q (h.spill (style_at h m rows columns q) (first_place b) v) have (of_spills m have q (first_place b) v))

      all_first : (v : SpillValue) (o : Option X) → ((x : X) → o ≡ Some x → P (first_place b) x) → (m : Contents X) → AllHave m → AllHave (with_first h b v o m)
      all_first v None p m have = have
      all_first v (Some x) p m have =
          all_put m (first_place b) (h.with_value (gathered v) (h.with_area b.width b.height x)) have
          (on.to_valued (first_place b) (h.with_area b.width b.height x) (gathered v) (on.to_widened (first_place b) x b.width b.height (p x refl)))

      pub all_spilled : (vs : List SpillValue) (m : Contents X) → AllHave m → AllHave (spilled h rows columns b vs m)
      all_spilled [] m have = have
      all_spilled (v ∷ vs) m have =
          all_filled vs (next_place b (first_place b)) (with_first h b v (finite.get m (first_place b)) (without_spill h (first_place b) m))
          (all_first v (finite.get m (first_place b)) (have (first_place b)) (without_spill h (first_place b) m) (all_without (first_place b) m have))
