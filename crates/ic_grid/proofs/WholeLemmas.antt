-- Arrays that have their spills, and merges that lie apart, told entry by entry.
use Rattle.std.proofs.Common.{◌≡◌, ◌∙◌, refl, sym, ap, subst, ℤ, Bool, true, false, not, List, Option, Some, None, arith}
use Rattle.std.proofs.lemmas.Bool.{and_from, both_ways, or_left as or_first, or_right as or_second, not-true as negated}
use Rattle.std.proofs.lemmas.Int.{ints}
use Rattle.std.proofs.lemmas.List.Sums.{AllPass-from_list_all, list_all-from_AllPass}
use Rattle.std.specs.Bool.{Decides}
use Rattle.std.specs.FinMap as finite
use Rattle.std.specs.List.{list_all}
use Rattle.std.specs.Option.{option_and_then, option_map, unwrap_or}
use Rattle.std.specs.Prelude.{◌+ℤ◌, ◌≤ℤ◌, ◌<ℤ◌}
use Rattle.ic_cells.specs.declared.cell.ArrayKind.{ArrayKind}
use Rattle.ic_cells.specs.declared.layout.Merge.{Merge}
use Rattle.ic_grid.proofs.ArrayLemmas.{array_there, spill_shape}
use Rattle.ic_grid.proofs.ContentsLemmas.{same_itself}
use Rattle.ic_grid.proofs.HandedInLemmas.{AreSo, decided_no, decided_yes, refused}
use Rattle.ic_grid.proofs.WalkLemmas.{between_is, by_side, in_block}
use Rattle.ic_grid.specs.Arrays.{array_from, array_of}
use Rattle.ic_grid.specs.Block.{Place, block_at, is_area, is_between, is_in_block, is_in_span, is_single, same_place}
use Rattle.ic_grid.specs.Conditions.{AreArrays, AreMerges, Has}
use Rattle.ic_grid.specs.Contents.{Contents}
use Rattle.ic_grid.specs.HandedIn.{AreApart, AreSeparate, HasSpill, IsFilled, IsRowFilled, IsWhole, is_filled_at, is_in_array, is_unmerged}
use Rattle.ic_grid.specs.Merges.{meets_merge, merged_block}
use Rattle.ic_grid.specs.Shape.{Holding, Shape, Empty, Value, Formula, Anchor, SpillOf, is_spill_of}
use Rattle.ic_grid.specs.Value.{shape_at}
use Rattle.ic_grid.specs.declared.block.Array.{Array}
use Rattle.ic_grid.specs.declared.block.Block.{Block}
use Rattle.ic_grid.proofs.SpillWhole.{second as of_second}
use Rattle.ic_laws.proofs.General.{chained as there}

in_span : (first count n : ℤ) → first ≤ℤ n → n <ℤ (first +ℤ count) → is_in_span first count n ≡ true
unfolding is_between
in_span first count n low high = grind (arith, ints, low, high)

module _ {X : Type 0} (h : Holding X) (m : Contents X) where
  shape_there : (p : Place) (s : Shape) → Has h m p s → shape_at h m p ≡ s
  shape_there p s has = ap (λ o. unwrap_or (option_map h.shape o) Empty) has.1 ∙ has.2

  spill_there : (p a : Place) → is_spill_of a (shape_at h m p) ≡ true → Has h m p (SpillOf a)
  spill_there p a e = of_held (finite.get m p) refl (spill_shape a (shape_at h m p) e)
    where
      of_held : (o : Option X) → finite.get m p ≡ o → unwrap_or (option_map h.shape (finite.get m p)) Empty ≡ SpillOf a → Has h m p (SpillOf a)
      of_held None e s = let wrong : Empty ≡ SpillOf a = sym (ap (λ o. unwrap_or (option_map h.shape o) Empty) e) ∙ s in cc
      of_held (Some x) e s = (x, e, sym (ap (λ o. unwrap_or (option_map h.shape o) Empty) e) ∙ s)

  -- the rows of a block
  module _ (b : Block) (area : is_area b ≡ true) where
    pub row_done : (row in_row at : ℤ) → in_row ≡ row → (b.column +ℤ b.width) ≤ℤ at → AreSo (λ n. is_filled_at h m b (in_row, n) ≡ true) b.column at → Decides true (IsRowFilled h m b row)
    row_done row in_row at e far so =
        subst (λ r. Decides true (IsRowFilled h m b r)) e
        (decided_yes (λ n inside. let i = between_is b.column (b.column +ℤ b.width) n inside in so.so n i.0 (omega (arith, ints, far, i.1))))

    pub row_failed : (row in_row at : ℤ) → in_row ≡ row → b.column ≤ℤ at → at <ℤ (b.column +ℤ b.width) → is_filled_at h m b (in_row, at) ≡ false → Decides false (IsRowFilled h m b row)
    row_failed row in_row at e low high fails =
        subst (λ r. Decides false (IsRowFilled h m b r)) e
        (decided_no (λ all. both_ways (is_filled_at h m b (in_row, at)) fails (all at (in_span b.column b.width at low high))))

    pub rows_done : (at : ℤ) → (b.row +ℤ b.height) ≤ℤ at → AreSo (λ n. IsRowFilled h m b n) b.row at → Decides true (IsFilled h m b)
    rows_done at far so =
        decided_yes (λ p inside.
        let i = in_block b p inside in
        so.so p.0 i.top (omega (arith, ints, far, i.bottom)) p.1 (in_span b.column b.width p.1 i.left i.right))

    pub rows_failed : (at : ℤ) → b.row ≤ℤ at → at <ℤ (b.row +ℤ b.height) → (IsRowFilled h m b at → ⊥) → Decides false (IsFilled h m b)
    rows_failed at low high fails =
        decided_no (λ all. fails (λ n inside. all (at, n) (and_from (is_in_span b.row b.height at) (is_in_span b.column b.width n) (in_span b.row b.height at low high) inside)))

  -- arrays
  pub spill_decided : (p : Place) (w t : ℤ) (b : Block) (r : Bool) → b ≡ block_at p w t → is_area b ≡ true → Decides r (IsFilled h m b) → Decides r (HasSpill h m p w t)
  spill_decided p w t b r e area d =
      let at : Decides r (IsFilled h m (block_at p w t)) = subst (λ (c : Block). Decides r (IsFilled h m c)) e d in
      (λ y. record { area = ap is_area (sym e) ∙ area; filled = at.0 y }, λ has. at.1 has.filled)

  pub whole_from : ((p : Place) (x : X) → finite.get m p ≡ Some x → IsWhole h m p (h.shape x)) → AreArrays h m
  whole_from each = record {
    areas = λ a w t kind has. (at a (Anchor w t kind) has).area;
    filled = λ a p w t kind has inside other.
        spill_there p a (of_second (same_place p a) (is_spill_of a (shape_at h m p)) ((at a (Anchor w t kind) has).filled p inside) other);
    owned = λ a p has. owned a p (at p (SpillOf a) has);
  }
    where
      at : (p : Place) (s : Shape) → Has h m p s → IsWhole h m p s
      at p s has = subst (IsWhole h m p) has.2 (each p has.0 has.1)

      owned : (a p : Place) → is_in_array p (array_of h m a) ≡ true → (w : ℤ) × (t : ℤ) × (kind : ArrayKind) × Has h m a (Anchor w t kind) × (is_in_block (block_at a w t) p ≡ true)
      owned a p e = of_array (array_of h m a) refl
        where
          of_array : (o : Option Array) → array_of h m a ≡ o → (w : ℤ) × (t : ℤ) × (kind : ArrayKind) × Has h m a (Anchor w t kind) × (is_in_block (block_at a w t) p ≡ true)
          of_array None is = let wrong : false ≡ true = sym (ap (is_in_array p) is) ∙ e in cc
          of_array (Some array) is =
              let one = array_there h m a array is in
              (one.0, one.1, one.2, one.3, ap (λ (b : Array). is_in_block b.block p) one.4 ∙ sym (ap (is_in_array p) is) ∙ e)

  array_is : (a : Place) (w t : ℤ) (kind : ArrayKind) → Has h m a (Anchor w t kind) → array_of h m a ≡ Some (record { block = block_at a w t; kind = kind })
  array_is a w t kind has = ap (option_and_then (λ x. array_from a (h.shape x))) has.1 ∙ ap (array_from a) has.2

  pub whole_to : AreArrays h m → (p : Place) (x : X) → finite.get m p ≡ Some x → IsWhole h m p (h.shape x)
  whole_to ok p x e = of_shape (h.shape x) (x, e, refl)
    where
      of_shape : (s : Shape) → Has h m p s → IsWhole h m p s
      of_shape Empty has = tt
      of_shape Value has = tt
      of_shape Formula has = tt
      of_shape (Anchor w t kind) has = record {
        area = ok.areas p w t kind has;
        filled = λ q inside.
            by_side (same_place q p) (or_first (same_place q p) (is_spill_of p (shape_at h m q)))
            (λ other. or_second (same_place q p) (is_spill_of p (shape_at h m q)) (ap (is_spill_of p) (shape_there q (SpillOf p) (ok.filled p q w t kind has inside other)) ∙ same_itself p));
      }
      of_shape (SpillOf a) has = let o = ok.owned a p has in ap (is_in_array p) (array_is a o.0 o.1 o.2 o.3) ∙ o.4

  -- merges
  merges_from : (merges : List Merge) → list_all (λ merge. is_area (merged_block merge)) merges ≡ true → AreApart merges → ((p : Place) (x : X) → finite.get m p ≡ Some x → is_unmerged merges (array_from p (h.shape x)) ≡ true) → AreMerges h m merges
  merges_from merges areas apart each = record {
    areas = AllPass-from_list_all (λ merge. is_area (merged_block merge)) merges areas;
    apart = apart;
    arrays = λ a array is more.
        let x = there (λ x. array_from a (h.shape x)) (finite.get m a) array is in
        negated (meets_merge merges array.block)
        (of_second (is_single array.block) (not (meets_merge merges array.block)) (sym (ap (is_unmerged merges) x.2) ∙ each a x.0 x.1) more);
  }

  merges_areas : (merges : List Merge) → AreMerges h m merges → list_all (λ merge. is_area (merged_block merge)) merges ≡ true
  merges_areas merges good = list_all-from_AllPass (λ merge. is_area (merged_block merge)) merges good.areas

  merges_to : (merges : List Merge) → AreMerges h m merges → (p : Place) (x : X) → finite.get m p ≡ Some x → is_unmerged merges (array_from p (h.shape x)) ≡ true
  merges_to merges good p x e = of_array (array_from p (h.shape x)) refl
    where
      of_array : (o : Option Array) → array_from p (h.shape x) ≡ o → is_unmerged merges o ≡ true
      of_array None is = refl
      of_array (Some array) is =
          by_side (is_single array.block) (or_first (is_single array.block) (not (meets_merge merges array.block)))
          (λ more. or_second (is_single array.block) (not (meets_merge merges array.block)) (ap not (good.arrays p array (ap (option_and_then (λ x. array_from p (h.shape x))) e ∙ is) more)))

  -- what is left to decide where the merges are in order by themselves
  pub merges_decided : (merges : List Merge) (r : Bool) → AreSeparate merges
      → Decides r ((p : Place) (x : X) → finite.get m p ≡ Some x → is_unmerged merges (array_from p (h.shape x)) ≡ true) → Decides r (AreMerges h m merges)
  merges_decided merges r good d = (λ y. merges_from merges good.areas good.apart (d.0 y), λ all. d.1 (merges_to merges all))

  pub merges_refused : (merges : List Merge) (r : Bool) → r ≡ false → (AreSeparate merges → ⊥) → Decides r (AreMerges h m merges)
  merges_refused merges r e wrong = refused r e (λ all. wrong (record { areas = merges_areas merges all; apart = all.apart }))

pub separate_decided : (merges : List Merge) (r : Bool) → list_all (λ merge. is_area (merged_block merge)) merges ≡ true → Decides r (AreApart merges) → Decides r (AreSeparate merges)
separate_decided merges r areas d = (λ y. record { areas = areas; apart = d.0 y }, λ good. d.1 good.apart)
