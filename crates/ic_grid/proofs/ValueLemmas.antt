-- A formula gets a value: what stands where then, and that all that holds of a sheet still does.
use Rattle.std.proofs.Common.{◌≡◌, ◌∙◌, refl, sym, ap, ap₂, subst, ℕ, ℤ, pos, Bool, true, false, cond, List, length, Option, Some, None, IsSome, is_some}
use Rattle.std.proofs.lemmas.Bool.{both_ways}
use Rattle.std.specs.FinMap as finite
use Rattle.std.specs.Option.{option_and_then, option_map, unwrap_or}
use Rattle.ic_cells.specs.declared.cell.ArrayKind.TheVariants as kinds
use Rattle.ic_cells.specs.declared.cell.Cell.{Cell}
use Rattle.ic_cells.specs.declared.cell.Cell.TheVariants as cells
use Rattle.ic_cells.specs.declared.value.FormulaValue.{FormulaValue}
use Rattle.ic_cells.specs.Cell.{style_of}
use Rattle.ic_laws.proofs.core.CellWritten.{place_cmp_total}
use Rattle.ic_grid.proofs.ArrayLemmas.{in_area, one_shape, spill_shape, whole_spill}
use Rattle.ic_grid.proofs.BlockLemmas.{first_in}
use Rattle.ic_grid.proofs.ContentsLemmas.{get-remade, same_contents, same_is, same_itself}
use Rattle.ic_grid.proofs.ReleaseLemmas.{there_array}
use Rattle.ic_grid.proofs.RowLemmas.{IsAt, at_first, first_left, placed_away}
use Rattle.ic_grid.proofs.SpreadLemmas.{spread_at, spread_length}
use Rattle.ic_grid.proofs.WalkLemmas.{by_side}
use Rattle.ic_grid.specs.Block.{Place, block_at, first_place, is_area, is_in_block, same_place}
use Rattle.ic_grid.specs.Conditions.{AreArrays, Has}
use Rattle.ic_grid.specs.Contents.{Contents, changed_where}
use Rattle.ic_grid.specs.Prepare.{unspilled, without_spill}
use Rattle.ic_grid.specs.Rows.{IsFull, place_count, placed, spread_from}
use Rattle.ic_grid.specs.Shape.{Anchor, Empty, Formula, SpillOf, celled, emptied, is_cse, is_spill_of, shape_of, single_formula, spread}
use Rattle.ic_grid.specs.Value.{IsArrayThere, formula_array, is_cse_anchor, shape_at, valued, valued_cell}
use Rattle.ic_grid.specs.declared.block.Array.{Array}

module _ (m : Contents Cell) (ok : AreArrays celled m) (f s : ℕ) (array : Array) (is : IsArrayThere m f s array) where
  abbrev a : Place
  a = first_place array.block

  abbrev w : ℤ
  w = array.block.width

  abbrev t : ℤ
  t = array.block.height

  found : (v : FormulaValue) × (finite.get m a ≡ Some (cells.ArrayFormula array.kind f s (w, t) v)) × (block_at a w t ≡ array.block)
  found = there_array a (finite.get m a) f s array is

  has : Has celled m a (Anchor w t array.kind)
  has = (cells.ArrayFormula array.kind f s (w, t) found.0, found.1, refl)

  pub there_area : is_area array.block ≡ true
  there_area = ap is_area (sym found.2) ∙ ok.areas a w t array.kind has

  cse_is : is_cse_anchor (shape_at celled m a) ≡ is_cse array.kind
  cse_is = ap (λ o. is_cse_anchor (unwrap_or (option_map shape_of o) Empty)) found.1

  pub unspilled_all : (after : Contents Cell) → after ≡ changed_where (is_in_block array.block) (unspilled celled a) m → after ≡ without_spill celled a m
  unspilled_all after e = e ∙ ap (λ b. changed_where (is_in_block b) (unspilled celled a) m) (sym found.2) ∙ whole_spill celled m ok a w t array.kind has

  pub still_a_formula : (between : Contents Cell) → between ≡ changed_where (is_in_block array.block) (unspilled celled a) m → (p : Place) → p ≡ a → IsSome (finite.get between p)
  still_a_formula between e p same =
      subst (λ o. IsSome o) (sym (ap₂ (λ (c : Contents Cell) (n : Place). finite.get c n) e same ∙ get-remade _ m a ∙ ap (option_and_then (λ x. Some (cond (is_in_block array.block a) (unspilled celled a x) x))) found.1)) refl

  module _ (value : FormulaValue) where
    valued_at : (q : Place) → finite.get (valued celled a value m) q ≡ option_and_then (λ x. Some (valued_cell celled (is_cse array.kind) value a q x)) (finite.get m q)
    valued_at q = get-remade _ m q ∙ ap (λ c. option_and_then (λ x. Some (valued_cell celled c value a q x)) (finite.get m q)) cse_is

    pub dynamic_valued : array.kind ≡ kinds.Dynamic → (between after : Contents Cell) → between ≡ without_spill celled a m → after ≡ finite.insert between a (cells.ArrayFormula kinds.Dynamic f s (pos 1, pos 1) value) → after ≡ valued celled a value m
    dynamic_valued kind between after e g =
        g ∙ ap (λ (c : Contents Cell). finite.insert c a cell) e
        ∙ same_contents _ _ (λ q. finite.get-insert place_cmp_total (without_spill celled a m) a cell q ∙ ap (cond (same_place q a) (Some cell)) (get-remade _ m q) ∙ each q (same_place q a) refl ∙ sym (valued_at q ∙ ap (λ k. option_and_then (λ x. Some (valued_cell celled (is_cse k) value a q x)) (finite.get m q)) kind))
      where
        cell : Cell
        cell = cells.ArrayFormula kinds.Dynamic f s (pos 1, pos 1) value

        at_other : (o : Option Cell) (u : Bool) (q : Place) → u ≡ false → option_and_then (λ x. Some (unspilled celled a x)) o ≡ option_and_then (λ x. Some (cond u (celled.with_value value (celled.with_area (pos 1) (pos 1) x)) (cond (is_spill_of a (shape_of x)) (emptied celled x) x))) o
        at_other None u q h = refl
        at_other (Some x) true q h = cc
        at_other (Some x) false q h = refl

        each : (q : Place) (u : Bool) → same_place q a ≡ u → cond u (Some cell) (option_and_then (λ x. Some (unspilled celled a x)) (finite.get m q)) ≡ option_and_then (λ x. Some (valued_cell celled false value a q x)) (finite.get m q)
        each q true h =
            let here : finite.get m q ≡ Some (cells.ArrayFormula array.kind f s (w, t) found.0) = ap (finite.get m) (same_is q a h) ∙ found.1 in
            sym (ap (option_and_then (λ x. Some (valued_cell celled false value a q x))) here ∙ ap (λ u. Some (cond u (cells.ArrayFormula array.kind f s (pos 1, pos 1) value) (cells.ArrayFormula array.kind f s (w, t) found.0))) h ∙ ap (λ k. Some (cells.ArrayFormula k f s (pos 1, pos 1) value)) kind)
        each q false h = at_other (finite.get m q) (same_place q a) q h

    -- the cells of a Cse array, each with the value
    pub cse_full : IsFull array.block m
    cse_full p within =
        by_side (same_place p a) (λ u. ap is_some (ap (finite.get m) (same_is p a u) ∙ found.1))
        (λ u. let spill = ok.filled a p w t array.kind has (ap (λ b. is_in_block b p) found.2 ∙ within) u in ap is_some spill.1)

    abbrev spread_all : List Cell
    spread_all = spread_from m array.block (spread value) (first_place array.block) (place_count array.block)

    pub cse_valued : array.kind ≡ kinds.Cse → (between after : Contents Cell) → between ≡ placed array.block (first_place array.block) spread_all m → after ≡ finite.insert between a (cells.ArrayFormula kinds.Cse f s (w, t) value) → after ≡ valued celled a value m
    cse_valued kind between after e g =
        g ∙ ap (λ (c : Contents Cell). finite.insert c a cell) e
        ∙ same_contents _ _ (λ q. finite.get-insert place_cmp_total placed_all a cell q ∙ each q (same_place q a) refl ∙ sym (valued_at q ∙ ap (λ k. option_and_then (λ x. Some (valued_cell celled (is_cse k) value a q x)) (finite.get m q)) kind))
      where
        cell : Cell
        cell = cells.ArrayFormula kinds.Cse f s (w, t) value

        placed_all : Contents Cell
        placed_all = placed array.block (first_place array.block) spread_all m

        spilt : (x : Cell) → shape_of x ≡ SpillOf a → (u : Bool) → u ≡ false
            → Some (celled.spill (celled.style x) a (spread value)) ≡ Some (cond u (celled.with_value value x) (cond (is_spill_of a (shape_of x)) (celled.spill (celled.style x) a (spread value)) x))
        spilt x shape true h = cc
        spilt x shape false h = sym (ap (λ k. Some (cond k (celled.spill (celled.style x) a (spread value)) x)) (ap (is_spill_of a) shape ∙ same_itself a))

        left : (o : Option Cell) (u : Bool) → u ≡ false → ((x : Cell) → o ≡ Some x → is_spill_of a (shape_of x) ≡ false)
            → o ≡ option_and_then (λ x. Some (cond u (celled.with_value value x) (cond (is_spill_of a (shape_of x)) (celled.spill (celled.style x) a (spread value)) x))) o
        left None u h k = refl
        left (Some x) true h k = cc
        left (Some x) false h k = sym (ap (λ j. Some (cond j (celled.spill (celled.style x) a (spread value)) x)) (k x refl))

        each : (q : Place) (u : Bool) → same_place q a ≡ u → cond u (Some cell) (finite.get placed_all q) ≡ option_and_then (λ x. Some (valued_cell celled true value a q x)) (finite.get m q)
        each q true h =
            let here : finite.get m q ≡ Some (cells.ArrayFormula array.kind f s (w, t) found.0) = ap (finite.get m) (same_is q a h) ∙ found.1 in
            sym (ap (option_and_then (λ x. Some (valued_cell celled true value a q x))) here ∙ ap (λ u. Some (cond u (cells.ArrayFormula array.kind f s (w, t) value) (cells.ArrayFormula array.kind f s (w, t) found.0))) h ∙ ap (λ k. Some (cells.ArrayFormula k f s (w, t) value)) kind)
        each q false h = by_side (is_in_block array.block q) within outside
          where
            within : is_in_block array.block q ≡ true → finite.get placed_all q ≡ option_and_then (λ x. Some (valued_cell celled true value a q x)) (finite.get m q)
            within i =
                let spill = ok.filled a q w t array.kind has (ap (λ b. is_in_block b q) found.2 ∙ i) h in
                spread_at m array.block (spread value) (place_count array.block) (first_place array.block) (at_first array.block there_area) m q (first_left array.block q ∙ i)
                ∙ ap (λ o. Some (celled.spill (unwrap_or (option_map style_of o) 0) a (spread value))) spill.1
                ∙ spilt spill.0 spill.2 (same_place q a) h
                ∙ sym (ap (option_and_then (λ x. Some (valued_cell celled true value a q x))) spill.1)

            outside : is_in_block array.block q ≡ false → finite.get placed_all q ≡ option_and_then (λ x. Some (valued_cell celled true value a q x)) (finite.get m q)
            outside i =
                placed_away array.block spread_all (first_place array.block)
                (subst (λ n. IsAt array.block (first_place array.block) n) (sym (spread_length m array.block (spread value) (place_count array.block) (first_place array.block))) (at_first array.block there_area)) m q
                (first_left array.block q ∙ i)
                ∙ left (finite.get m q) (same_place q a) h (λ x e. by_side (is_spill_of a (shape_of x))
                (λ y. absurd (both_ways (is_in_block array.block q) i (ap (λ b. is_in_block b q) (sym found.2) ∙ in_area celled m ok a q w t array.kind has (x, e, spill_shape a (shape_of x) y))))
                (λ y. y))

    pub cse_placed : (items : List Cell) → items ≡ spread_all → (between : Contents Cell) → between ≡ placed array.block (first_place array.block) items m → between ≡ placed array.block (first_place array.block) spread_all m
    cse_placed items e between g = g ∙ ap (λ xs. placed array.block (first_place array.block) xs m) e

    pub cse_count : (items : List Cell) → items ≡ spread_all → length items ≡ place_count array.block
    cse_count items e = ap length e ∙ spread_length m array.block (spread value) (place_count array.block) (first_place array.block)

    pub cse_there : (between : Contents Cell) → between ≡ placed array.block (first_place array.block) spread_all m → (p : Place) → p ≡ a → IsSome (finite.get between p)
    cse_there between e p same =
        subst (λ o. IsSome o) (sym (ap₂ (λ (c : Contents Cell) (n : Place). finite.get c n) e same
        ∙ spread_at m array.block (spread value) (place_count array.block) (first_place array.block) (at_first array.block there_area) m a (first_left array.block a ∙ ap (λ b. is_in_block b a) (sym found.2) ∙ first_in a w t (ok.areas a w t array.kind has)))) refl

-- the first place of an array is that of its formula
pub there_place : (p : Place) (o : Option Cell) (f s : ℕ) (array : Array) → formula_array p o ≡ Some (f, s, array) → first_place array.block ≡ p
there_place p o f s array e = ap first_place (sym (there_array p o f s array e).2)

pub there_still : (m : Contents Cell) (p : Place) (f s : ℕ) (array : Array) → formula_array p (finite.get m p) ≡ Some (f, s, array) → IsArrayThere m f s array
there_still m p f s array e = subst (λ (q : Place). formula_array q (finite.get m q) ≡ Some (f, s, array)) (sym (there_place p (finite.get m p) f s array e)) e

pub valued_there : (m after : Contents Cell) (p : Place) (f s : ℕ) (array : Array) (value : FormulaValue) → formula_array p (finite.get m p) ≡ Some (f, s, array) → after ≡ valued celled (first_place array.block) value m → after ≡ valued celled p value m
valued_there m after p f s array value e h = h ∙ ap (λ (q : Place). valued celled q value m) (there_place p (finite.get m p) f s array e)

-- a formula with one value
single_there : (o : Option Cell) (f s : ℕ) → single_formula o ≡ Some (f, s) → (v : FormulaValue) × (o ≡ Some (cells.CellFormula f s v))
single_there None f s e = cc
single_there (Some (cells.EmptyCell n)) f s e = cc
single_there (Some (cells.BooleanCell v n)) f s e = cc
single_there (Some (cells.NumberCell v n)) f s e = cc
single_there (Some (cells.ErrorCell v n)) f s e = cc
single_there (Some (cells.SharedString v n)) f s e = cc
single_there (Some (cells.SpillCell n b v)) f s e = cc
single_there (Some (cells.ArrayFormula k g n r v)) f s e = cc
single_there (Some (cells.CellFormula g n v)) f s e =
    let same : ◌≡◌ {A = ℕ × ℕ} (g, n) (f, s) = cc in
    (v, ap (λ (z : ℕ × ℕ). Some (cells.CellFormula z.0 z.1 v)) same)

module _ (m : Contents Cell) (ok : AreArrays celled m) (a : Place) (f s : ℕ) (is : single_formula (finite.get m a) ≡ Some (f, s)) (value : FormulaValue) where
  found_single : (v : FormulaValue) × (finite.get m a ≡ Some (cells.CellFormula f s v))
  found_single = single_there (finite.get m a) f s is

  -- it has no spill
  no_spill_of : (q : Place) (x : Cell) → finite.get m q ≡ Some x → is_spill_of a (shape_of x) ≡ false
  no_spill_of q x e =
      by_side (is_spill_of a (shape_of x))
      (λ y.
      let o = ok.owned a q (x, e, spill_shape a (shape_of x) y) in
      let never : Anchor o.0 o.1 o.2 ≡ Formula = one_shape celled m a (Anchor o.0 o.1 o.2) Formula o.3 (cells.CellFormula f s found_single.0, found_single.1, refl) in
      cc)
      (λ y. y)

  pub single_valued : (after : Contents Cell) → after ≡ finite.insert m a (cells.CellFormula f s value) → after ≡ valued celled a value m
  single_valued after e = e ∙ same_contents _ _ (λ q. finite.get-insert place_cmp_total m a (cells.CellFormula f s value) q ∙ each q (same_place q a) refl ∙ sym (get-remade _ m q ∙ ap (λ c. option_and_then (λ x. Some (valued_cell celled c value a q x)) (finite.get m q)) plain))
    where
      plain : is_cse_anchor (shape_at celled m a) ≡ false
      plain = ap (λ o. is_cse_anchor (unwrap_or (option_map shape_of o) Empty)) found_single.1

      at_other : (o : Option Cell) (u : Bool) → u ≡ false → ((x : Cell) → o ≡ Some x → is_spill_of a (shape_of x) ≡ false)
          → o ≡ option_and_then (λ x. Some (cond u (celled.with_value value (celled.with_area (pos 1) (pos 1) x)) (cond (is_spill_of a (shape_of x)) (emptied celled x) x))) o
      at_other None u h k = refl
      at_other (Some x) true h k = cc
      at_other (Some x) false h k = sym (ap (λ j. Some (cond j (emptied celled x) x)) (k x refl))

      each : (q : Place) (u : Bool) → same_place q a ≡ u → cond u (Some (cells.CellFormula f s value)) (finite.get m q) ≡ option_and_then (λ x. Some (valued_cell celled false value a q x)) (finite.get m q)
      each q true h =
          let here : finite.get m q ≡ Some (cells.CellFormula f s found_single.0) = ap (finite.get m) (same_is q a h) ∙ found_single.1 in
          sym (ap (option_and_then (λ x. Some (valued_cell celled false value a q x))) here ∙ ap (λ u. Some (cond u (cells.CellFormula f s value) (cells.CellFormula f s found_single.0))) h)
      each q false h = at_other (finite.get m q) (same_place q a) h (no_spill_of q)
