-- Arrays: where their formulas stand, and which cells are theirs.
use Rattle.std.proofs.Common.{◌≡◌, ◌∙◌, ◌⊎◌, inl, inr, refl, sym, ap, subst, ℤ, Bool, true, false, cond, Some, IsSome, is_some}
use Rattle.std.proofs.lemmas.Bool.{both_ways}
use Rattle.std.specs.FinMap as finite
use Rattle.std.specs.Option.{option_and_then}
use Rattle.ic_cells.specs.declared.cell.ArrayKind.{ArrayKind}
use Rattle.ic_grid.proofs.BlockLemmas.{first_in}
use Rattle.ic_grid.proofs.ContentsLemmas.{remade_alike, same_is}
use Rattle.ic_grid.specs.Arrays.{anchor_at, anchor_of, array_from, array_of}
use Rattle.ic_grid.specs.Block.{Place, block_at, first_place, is_area, is_in_block, same_place}
use Rattle.ic_grid.specs.Conditions.{AreArrays, Has}
use Rattle.ic_grid.specs.Contents.{Contents, changed_where}
use Rattle.ic_grid.specs.Prepare.{anchor_reset, released, unspilled}
use Rattle.ic_grid.specs.Shape.{Holding, Shape, Empty, Value, Formula, Anchor, SpillOf, emptied, is_spill_of}
use Rattle.ic_grid.specs.declared.block.Array.{Array}
use Rattle.ic_laws.proofs.General.{chained as there}

pub spill_shape : (a : Place) (s : Shape) → is_spill_of a s ≡ true → s ≡ SpillOf a
spill_shape a Empty e = cc
spill_shape a Value e = cc
spill_shape a Formula e = cc
spill_shape a (Anchor w t k) e = cc
spill_shape a (SpillOf b) e = ap SpillOf (sym (same_is a b e))

-- an area and a kind
abbrev pub array_with : Place → ℤ → ℤ → ArrayKind → Array
array_with a w t k = record { block = block_at a w t; kind = k }

anchor_shape : (a : Place) (s : Shape) (array : Array) → array_from a s ≡ Some array → (w : ℤ) × (t : ℤ) × (k : ArrayKind) × (s ≡ Anchor w t k) × (array_with a w t k ≡ array)
anchor_shape a Empty array e = cc
anchor_shape a Value array e = cc
anchor_shape a Formula array e = cc
anchor_shape a (SpillOf b) array e = cc
anchor_shape a (Anchor w t k) array e = (w, t, k, refl, one e)
  where
    one : Some (record { block = block_at a w t; kind = k }) ≡ Some array → array_with a w t k ≡ array
    one e = cc

anchor_is : (p a : Place) (s : Shape) → anchor_of p s ≡ Some a → ((w : ℤ) × (t : ℤ) × (k : ArrayKind) × (s ≡ Anchor w t k) × (p ≡ a)) ⊎ (s ≡ SpillOf a)
anchor_is p a Empty e = cc
anchor_is p a Value e = cc
anchor_is p a Formula e = cc
anchor_is p a (Anchor w t k) e = let same : p ≡ a = cc in inl (w, t, k, refl, same)
anchor_is p a (SpillOf b) e = let same : b ≡ a = cc in inr (ap SpillOf same)

module _ {X : Type 0} (h : Holding X) (m : Contents X) where
  -- what stands at a place has one shape
  pub one_shape : (p : Place) (s u : Shape) → Has h m p s → Has h m p u → s ≡ u
  one_shape p s u one two =
      let same : Some one.0 ≡ Some two.0 = sym one.1 ∙ two.1 in
      let x : one.0 ≡ two.0 = cc in
      sym one.2 ∙ ap h.shape x ∙ two.2

  pub anchor_at_of : (p : Place) (s : Shape) → Has h m p s → anchor_at h m p ≡ anchor_of p s
  anchor_at_of p s has = ap (option_and_then (λ x. anchor_of p (h.shape x))) has.1 ∙ ap (anchor_of p) has.2

  pub array_of_anchor : (a : Place) (w t : ℤ) (k : ArrayKind) → Has h m a (Anchor w t k) → IsSome (array_of h m a)
  array_of_anchor a w t k has = ap is_some (ap (option_and_then (λ x. array_from a (h.shape x))) has.1 ∙ ap (array_from a) has.2)

  pub array_there : (a : Place) (array : Array) → array_of h m a ≡ Some array → (w : ℤ) × (t : ℤ) × (k : ArrayKind) × Has h m a (Anchor w t k) × (array_with a w t k ≡ array)
  array_there a array e =
      let one = there (λ x. array_from a (h.shape x)) (finite.get m a) array e in
      let two = anchor_shape a (h.shape one.0) array one.2 in
      (two.0, two.1, two.2, (one.0, one.1, two.3), two.4)

  -- what a place's array begins with
  pub anchor_there : (p a : Place) → anchor_at h m p ≡ Some a → ((w : ℤ) × (t : ℤ) × (k : ArrayKind) × Has h m p (Anchor w t k) × (p ≡ a)) ⊎ Has h m p (SpillOf a)
  anchor_there p a e =
      let one = there (λ x. anchor_of p (h.shape x)) (finite.get m p) a e in
      by_case one.0 one.1 (anchor_is p a (h.shape one.0) one.2)
    where
      by_case : (x : X) → finite.get m p ≡ Some x → ((w : ℤ) × (t : ℤ) × (k : ArrayKind) × (h.shape x ≡ Anchor w t k) × (p ≡ a)) ⊎ (h.shape x ≡ SpillOf a)
          → ((w : ℤ) × (t : ℤ) × (k : ArrayKind) × Has h m p (Anchor w t k) × (p ≡ a)) ⊎ Has h m p (SpillOf a)
      by_case x e (inl i) = inl (i.0, i.1, i.2, (x, e, i.3), i.4)
      by_case x e (inr i) = inr (x, e, i)

  module _ (ok : AreArrays h m) where
    -- the formula of a place's array is there
    pub anchored : (p a : Place) → anchor_at h m p ≡ Some a → IsSome (array_of h m a)
    anchored p a e = of_case (anchor_there p a e)
      where
        of_case : ((w : ℤ) × (t : ℤ) × (k : ArrayKind) × Has h m p (Anchor w t k) × (p ≡ a)) ⊎ Has h m p (SpillOf a) → IsSome (array_of h m a)
        of_case (inl i) = subst (λ (q : Place). IsSome (array_of h m q)) i.4 (array_of_anchor p i.0 i.1 i.2 i.3)
        of_case (inr i) = let o = ok.owned a p i in array_of_anchor a o.0 o.1 o.2 o.3

    pub array_area : (a : Place) (array : Array) → array_of h m a ≡ Some array → is_area array.block ≡ true
    array_area a array e =
        let one = array_there a array e in
        ap (λ (b : Array). is_area b.block) (sym one.4) ∙ ok.areas a one.0 one.1 one.2 one.3

    -- each cell of a spill lies in the array's area
    pub in_area : (a q : Place) (w t : ℤ) (k : ArrayKind) → Has h m a (Anchor w t k) → Has h m q (SpillOf a) → is_in_block (block_at a w t) q ≡ true
    in_area a q w t k anchor spill =
        let o = ok.owned a q spill in
        let same : Anchor o.0 o.1 o.2 ≡ Anchor w t k = one_shape a _ _ o.3 anchor in
        let wide : o.0 ≡ w = cc in
        let high : o.1 ≡ t = cc in
        ap (λ n. is_in_block (block_at a n t) q) (sym wide) ∙ ap (λ n. is_in_block (block_at a o.0 n) q) (sym high) ∙ o.4

    -- a place of an array is in its area
    pub place_in_area : (p a : Place) → anchor_at h m p ≡ Some a → (w t : ℤ) (k : ArrayKind) → Has h m a (Anchor w t k) → is_in_block (block_at a w t) p ≡ true
    place_in_area p a anchor w t k has = of_case (anchor_there p a anchor)
      where
        of_case : ((n : ℤ) × (l : ℤ) × (j : ArrayKind) × Has h m p (Anchor n l j) × (p ≡ a)) ⊎ Has h m p (SpillOf a) → is_in_block (block_at a w t) p ≡ true
        of_case (inl i) = ap (is_in_block (block_at a w t)) i.4 ∙ first_in a w t (ok.areas a w t k has)
        of_case (inr i) = in_area a p w t k has i

    inside : (b : Bool) (x y : X) → (b ≡ false → x ≡ y) → cond b y x ≡ y
    inside true x y e = refl
    inside false x y e = e refl

    outside : (t : Bool) (x y : X) → (t ≡ true → ⊥) → x ≡ cond t y x
    outside true x y never = absurd (never refl)
    outside false x y never = refl

    -- so to empty the spill in its area is to empty it
    pub whole_spill : (a : Place) (w t : ℤ) (k : ArrayKind) → Has h m a (Anchor w t k) → changed_where (is_in_block (block_at a w t)) (unspilled h a) m ≡ changed_where (λ q. true) (unspilled h a) m
    whole_spill a w t k has =
        remade_alike _ _ m (λ q x e.
        ap Some (inside (is_in_block (block_at a w t) q) x (unspilled h a x) (λ out.
        outside (is_spill_of a (h.shape x)) x (emptied h x) (λ spilt.
        both_ways (is_in_block (block_at a w t) q) out (in_area a q w t k has (x, e, spill_shape a (h.shape x) spilt))))))

    pub whole_release : (a : Place) (array : Array) → array_of h m a ≡ Some array → (between after : Contents X) → between ≡ changed_where (is_in_block array.block) (unspilled h (first_place array.block)) m
        → after ≡ changed_where (λ q. same_place q a) (anchor_reset h) between → after ≡ released h a m
    whole_release a array e between after one two =
        let has = array_there a array e in
        two ∙ ap (changed_where (λ q. same_place q a) (anchor_reset h)) (
        one ∙ ap (λ (b : Array). changed_where (is_in_block b.block) (unspilled h (first_place b.block)) m) (sym has.4)
        ∙ whole_spill a has.0 has.1 has.2 has.3)
