-- Some arrays of a sheet are loosened: none of their cells is one of an array of more than one cell any more. The others
-- stay as they are. What holds of all arrays still does.
use Rattle.std.proofs.Common.{◌≡◌, ◌∙◌, ◌⊎◌, inl, inr, refl, sym, ap, ℤ, pos, Bool, true, false, ◌&&◌, List, Option, Some, None}
use Rattle.std.proofs.lemmas.Bool.{both_ways}
use Rattle.std.specs.FinMap as finite
use Rattle.std.specs.Option.{option_and_then}
use Rattle.std.specs.Ordering.{int_eq}
use Rattle.ic_cells.specs.declared.cell.ArrayKind.{ArrayKind}
use Rattle.ic_cells.specs.declared.layout.Merge.{Merge}
use Rattle.ic_grid.proofs.ArrayLemmas.{anchor_at_of, array_there, array_with}
use Rattle.ic_grid.proofs.BlockLemmas.{block_of_one, one_is_area}
use Rattle.ic_grid.specs.Arrays.{anchor_at, array_from, array_of}
use Rattle.ic_grid.specs.Block.{Place, block_at, is_area, is_in_block, is_single, same_place}
use Rattle.ic_grid.specs.Conditions.{AreArrays, AreInSheet, AreMerges, Has}
use Rattle.ic_grid.specs.Contents.{Contents}
use Rattle.ic_grid.specs.Merges.{meets_merge}
use Rattle.ic_grid.specs.Shape.{Holding, Shape, Anchor, SpillOf, is_loose}
use Rattle.ic_grid.specs.declared.block.Array.{Array}

module _ {X : Type 0} (h : Holding X) (m after : Contents X) where
  -- the arrays whose formulas stand at the places that pass the test are loosened
  pub record Loosens (test : Place → Bool) : Type 0 where
    pub kept : (q a : Place) → anchor_at h m q ≡ Some a → test a ≡ false → finite.get after q ≡ finite.get m q
    pub loose : (q : Place) → ((a : Place) → anchor_at h m q ≡ Some a → test a ≡ true) → (x : X) → finite.get after q ≡ Some x → is_loose (h.shape x) ≡ true

  module _ (test : Place → Bool) (l : Loosens test) where
    -- each place is kept, in an array that is, or loose
    abbrev IsKept : Place → Type 0
    IsKept q = (a : Place) × (anchor_at h m q ≡ Some a) × (test a ≡ false) × (finite.get after q ≡ finite.get m q)

    abbrev IsLoose : Place → Type 0
    IsLoose q = (x : X) → finite.get after q ≡ Some x → is_loose (h.shape x) ≡ true

    sorted : (q : Place) (o : Option Place) → anchor_at h m q ≡ o → IsKept q ⊎ IsLoose q
    sorted q None e = inr (l.loose q (λ a is. let never : None ≡ Some a = sym e ∙ is in cc))
    sorted q (Some a) e = by_test (test a) refl
      where
        by_test : (b : Bool) → test a ≡ b → IsKept q ⊎ IsLoose q
        by_test true t = inr (l.loose q (λ b is. let same : Some a ≡ Some b = sym e ∙ is in let one : a ≡ b = cc in ap test (sym one) ∙ t))
        by_test false t = inl (a, e, t, l.kept q a e t)

    each : (q : Place) → IsKept q ⊎ IsLoose q
    each q = sorted q (anchor_at h m q) refl

    was : (q : Place) (s : Shape) → finite.get after q ≡ finite.get m q → Has h after q s → Has h m q s
    was q s e has = (has.0, sym e ∙ has.1, has.2)

    is : (q : Place) (s : Shape) → finite.get after q ≡ finite.get m q → Has h m q s → Has h after q s
    is q s e has = (has.0, e ∙ has.1, has.2)

    no_spill : (q a : Place) {P : Type 0} → IsLoose q → Has h after q (SpillOf a) → P
    no_spill q a loose has = let never : false ≡ true = sym (ap is_loose has.2) ∙ loose has.0 has.1 in cc

    single : (q : Place) (w t : ℤ) (k : ArrayKind) → IsLoose q → Has h after q (Anchor w t k) → (int_eq w (pos 1) && int_eq t (pos 1)) ≡ true
    single q w t k loose has = sym (ap is_loose has.2) ∙ loose has.0 has.1

    -- an array whose formula is kept is kept whole
    rest_kept : (a q : Place) (s : Shape) → Has h m q s → anchor_at h m q ≡ Some a → test a ≡ false → Has h after q s
    rest_kept a q s has e t = is q s (l.kept q a e t) has

    anchor_kept : (a : Place) (w t : ℤ) (k : ArrayKind) → Has h after a (Anchor w t k) → IsKept a → Has h m a (Anchor w t k) × (test a ≡ false)
    anchor_kept a w t k has i =
        let old : Has h m a (Anchor w t k) = was a _ i.3 has in
        let same : Some i.0 ≡ Some a = sym i.1 ∙ anchor_at_of h m a _ old in
        let one : i.0 ≡ a = cc in
        (old, ap test (sym one) ∙ i.2)

    pub loosened_arrays : AreArrays h m → AreInSheet h after → AreArrays h after
    loosened_arrays ok inside = record { areas = areas; filled = filled; owned = owned }
      where
        areas : (a : Place) (w t : ℤ) (k : ArrayKind) → Has h after a (Anchor w t k) → is_area (block_at a w t) ≡ true
        areas a w t k has = of_case (each a)
          where
            of_case : IsKept a ⊎ IsLoose a → is_area (block_at a w t) ≡ true
            of_case (inl i) = let old = anchor_kept a w t k has i in ok.areas a w t k old.0
            of_case (inr i) = one_is_area a w t (single a w t k i has) (inside a has.0 has.1)

        filled : (a p : Place) (w t : ℤ) (k : ArrayKind) → Has h after a (Anchor w t k) → is_in_block (block_at a w t) p ≡ true → same_place p a ≡ false → Has h after p (SpillOf a)
        filled a p w t k has in_it other = of_case (each a)
          where
            of_case : IsKept a ⊎ IsLoose a → Has h after p (SpillOf a)
            of_case (inl i) =
                let old = anchor_kept a w t k has i in
                let spill = ok.filled a p w t k old.0 in_it other in
                rest_kept a p _ spill (anchor_at_of h m p _ spill) old.1
            of_case (inr i) = absurd (both_ways (same_place p a) other (block_of_one a p w t (single a w t k i has) in_it))

        owned : (a p : Place) → Has h after p (SpillOf a) → (w : ℤ) × (t : ℤ) × (k : ArrayKind) × Has h after a (Anchor w t k) × (is_in_block (block_at a w t) p ≡ true)
        owned a p has = of_case (each p)
          where
            of_case : IsKept p ⊎ IsLoose p → (w : ℤ) × (t : ℤ) × (k : ArrayKind) × Has h after a (Anchor w t k) × (is_in_block (block_at a w t) p ≡ true)
            of_case (inr i) = no_spill p a i has
            of_case (inl i) =
                let old : Has h m p (SpillOf a) = was p _ i.3 has in
                let same : Some i.0 ≡ Some a = sym i.1 ∙ anchor_at_of h m p _ old in
                let one : i.0 ≡ a = cc in
                let o = ok.owned a p old in
                (o.0, o.1, o.2, rest_kept a a _ o.3 (anchor_at_of h m a _ o.3) (ap test (sym one) ∙ i.2), o.4)

    pub loosened_merges : (merges : List Merge) → AreMerges h m merges → AreMerges h after merges
    loosened_merges merges ok = record { areas = ok.areas; apart = ok.apart; arrays = arrays }
      where
        single_block : (a : Place) (array : Array) (w t : ℤ) (k : ArrayKind) → (int_eq w (pos 1) && int_eq t (pos 1)) ≡ true → array_with a w t k ≡ array → is_single array.block ≡ true
        single_block a array w t k one e = ap (λ (b : Array). is_single b.block) (sym e) ∙ one

        arrays : (a : Place) (array : Array) → array_of h after a ≡ Some array → is_single array.block ≡ false → meets_merge merges array.block ≡ false
        arrays a array e many = of_case (each a)
          where
            of_case : IsKept a ⊎ IsLoose a → meets_merge merges array.block ≡ false
            of_case (inl i) = ok.arrays a array (ap (option_and_then (λ x. array_from a (h.shape x))) (sym i.3) ∙ e) many
            of_case (inr i) =
                let t = array_there h after a array e in
                absurd (both_ways (is_single array.block) many (single_block a array t.0 t.1 t.2 (single a t.0 t.1 t.2 i t.3) t.4))
