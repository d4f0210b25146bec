-- Placeholders are put at the places of a block, one after another, and taken away again.
use Rattle.std.proofs.Common.{◌≡◌, ◌∙◌, ◌⊎◌, inl, inr, refl, sym, ap, subst, ℕ, zero, suc, Bool, true, false, cond, Option, Some, None, is_some, IsSome}
use Rattle.std.proofs.lemmas.Bool.{and_from, both_ways}
use Rattle.std.specs.FinMap as finite
use Rattle.std.specs.Option.{option_and_then}
use Rattle.ic_cells.specs.declared.cell.Cell.{Cell}
use Rattle.ic_laws.proofs.core.CellWritten.{place_cmp_total}
use Rattle.ic_grid.proofs.ArrayLemmas.{spill_shape}
use Rattle.ic_grid.proofs.ContentsLemmas.{get-remade, same_contents, same_is, same_itself}
use Rattle.ic_grid.proofs.RowLemmas.{IsAt, at_first, at_in, at_next, first_left, left_other, none_at_end}
use Rattle.ic_grid.proofs.WalkLemmas.{by_side, from_itself}
use Rattle.ic_grid.specs.Block.{Place, first_place, is_area, is_in_block, is_in_sheet, next_place, same_place}
use Rattle.ic_grid.specs.Change.{changed, changed_in, is_placeholder, nowhere, placeholder}
use Rattle.ic_grid.specs.Conditions.{AreArrays, AreInSheet}
use Rattle.ic_grid.specs.Contents.{Contents}
use Rattle.ic_grid.specs.Room.{IsAdded, IsMarked, marked_at}
use Rattle.ic_grid.specs.Rows.{IsFull, place_count}
use Rattle.ic_grid.specs.Shape.{celled, shape_of}
use Rattle.ic_grid.specs.Walk.{is_from, is_left}
use Rattle.ic_grid.specs.declared.block.Block.{Block}
use Rattle.ic_grid.specs.declared.changes.Change.TheVariants as changes
use Rattle.ic_grid.proofs.WriteLemmas.{none_there as no_thing}

module _ (m : Contents Cell) (q : Place) where
  marked_get : (p : Place) → (finite.get (marked_at q m) p ≡ finite.get m p) ⊎ ((p ≡ q) × (finite.get m p ≡ None) × (finite.get (marked_at q m) p ≡ Some placeholder))
  marked_get p = by_side (is_some (finite.get m q)) there fresh
    where
      there : is_some (finite.get m q) ≡ true → (finite.get (marked_at q m) p ≡ finite.get m p) ⊎ ((p ≡ q) × (finite.get m p ≡ None) × (finite.get (marked_at q m) p ≡ Some placeholder))
      there t = inl (ap (λ b. let c : Contents Cell = cond b m (finite.insert m q placeholder) in finite.get c p) t)

      fresh : is_some (finite.get m q) ≡ false → (finite.get (marked_at q m) p ≡ finite.get m p) ⊎ ((p ≡ q) × (finite.get m p ≡ None) × (finite.get (marked_at q m) p ≡ Some placeholder))
      fresh t = by_side (same_place p q) here elsewhere
        where
          now : finite.get (marked_at q m) p ≡ cond (same_place p q) (Some placeholder) (finite.get m p)
          now = ap (λ b. let c : Contents Cell = cond b m (finite.insert m q placeholder) in finite.get c p) t ∙ finite.get-insert place_cmp_total m q placeholder p

          here : same_place p q ≡ true → (finite.get (marked_at q m) p ≡ finite.get m p) ⊎ ((p ≡ q) × (finite.get m p ≡ None) × (finite.get (marked_at q m) p ≡ Some placeholder))
          here s = inr (same_is p q s, ap (finite.get m) (same_is p q s) ∙ no_thing (finite.get m q) t, now ∙ ap (λ b. cond b (Some placeholder) (finite.get m p)) s)

          elsewhere : same_place p q ≡ false → (finite.get (marked_at q m) p ≡ finite.get m p) ⊎ ((p ≡ q) × (finite.get m p ≡ None) × (finite.get (marked_at q m) p ≡ Some placeholder))
          elsewhere s = inl (now ∙ ap (λ b. cond b (Some placeholder) (finite.get m p)) s)

  marked_there : IsSome (finite.get (marked_at q m) q)
  marked_there = by_side (is_some (finite.get m q)) there fresh
    where
      there : is_some (finite.get m q) ≡ true → IsSome (finite.get (marked_at q m) q)
      there t = ap (λ b. let c : Contents Cell = cond b m (finite.insert m q placeholder) in is_some (finite.get c q)) t ∙ t

      fresh : is_some (finite.get m q) ≡ false → IsSome (finite.get (marked_at q m) q)
      fresh t =
          ap (λ b. let c : Contents Cell = cond b m (finite.insert m q placeholder) in is_some (finite.get c q)) t
          ∙ ap is_some (finite.get-insert place_cmp_total m q placeholder q ∙ ap (λ b. cond b (Some placeholder) (finite.get m q)) (same_itself q))

  marked_still : (p : Place) → IsSome (finite.get m p) → IsSome (finite.get (marked_at q m) p)
  marked_still p some = of_case (marked_get p)
    where
      of_case : (finite.get (marked_at q m) p ≡ finite.get m p) ⊎ ((p ≡ q) × (finite.get m p ≡ None) × (finite.get (marked_at q m) p ≡ Some placeholder)) → IsSome (finite.get (marked_at q m) p)
      of_case (inl e) = ap is_some e ∙ some
      of_case (inr i) = ap is_some i.2

module _ (b : Block) (m : Contents Cell) where
  -- so it is up to a place
  pub record IsMarking (now : Contents Cell) (at : Place) : Type 0 where
    pub n : ℕ
    pub left : IsAt b at n
    pub marked : IsMarked b m now
    pub done : (p : Place) → is_in_block b p ≡ true → is_left b at p ≡ false → IsSome (finite.get now p)

  pub marking_begun : is_area b ≡ true → (at : Place) → at ≡ first_place b → IsMarking m at
  marking_begun area at e =
      subst (λ (p : Place). IsMarking m p) (sym e)
      (record {
        n = place_count b;
        left = at_first b area;
        marked = λ p. inl refl;
        done = λ p within out. absurd (both_ways (is_left b (first_place b) p) out (first_left b p ∙ within));
      })

  module _ (now : Contents Cell) (at : Place) (so : IsMarking now at) where
    pub marked_more : is_in_block b at ≡ true → (after : Contents Cell) → after ≡ marked_at at now → IsMarked b m after
    marked_more within after e = subst (λ (c : Contents Cell). IsMarked b m c) (sym e) (λ p. step p (marked_get now at p) (so.marked p))
      where
        step : (p : Place) → (finite.get (marked_at at now) p ≡ finite.get now p) ⊎ ((p ≡ at) × (finite.get now p ≡ None) × (finite.get (marked_at at now) p ≡ Some placeholder))
            → (finite.get now p ≡ finite.get m p) ⊎ ((is_in_block b p ≡ true) × (finite.get m p ≡ None) × (finite.get now p ≡ Some placeholder))
            → (finite.get (marked_at at now) p ≡ finite.get m p) ⊎ ((is_in_block b p ≡ true) × (finite.get m p ≡ None) × (finite.get (marked_at at now) p ≡ Some placeholder))
        step p (inl s) (inl t) = inl (s ∙ t)
        step p (inl s) (inr t) = inr (t.0, t.1, s ∙ t.2)
        step p (inr s) (inl t) = inr (ap (is_in_block b) s.0 ∙ within, sym t ∙ s.1, s.2)
        step p (inr s) (inr t) = inr (t.0, t.1, s.2)

    pub marking_more : is_in_block b at ≡ true → (after : Contents Cell) → after ≡ marked_at at now → (next : Place) → next ≡ next_place b at → IsMarking after next
    marking_more within after e next is = by_left so.n so.left
      where
        by_left : (n : ℕ) → IsAt b at n → IsMarking after next
        by_left zero left = absurd (both_ways (is_left b at at) (none_at_end b at left at) (and_from (is_in_block b at) (is_from at at) within (from_itself at)))
        by_left (suc n) left =
            subst (λ (p : Place). IsMarking after p) (sym is) (record {
              n = n;
              left = at_next b at n left;
              marked = marked_more within after e;
              done = λ p i out. subst (λ (c : Contents Cell). IsSome (finite.get c p)) (sym e) (by_side (same_place p at) (here p) (other p i out));
            })
          where
            here : (p : Place) → same_place p at ≡ true → IsSome (finite.get (marked_at at now) p)
            here p s = subst (λ (q : Place). IsSome (finite.get (marked_at at now) q)) (sym (same_is p at s)) (marked_there now at)

            other : (p : Place) → is_in_block b p ≡ true → is_left b (next_place b at) p ≡ false → same_place p at ≡ false → IsSome (finite.get (marked_at at now) p)
            other p i out s =
                marked_still now at p (so.done p i (by_side (is_left b at p) (λ t. absurd (both_ways (is_left b (next_place b at) p) out (left_other b at n left p t s))) (λ t. t)))

    pub marking_done : is_in_block b at ≡ false → IsFull b now
    marking_done out p within = by_left so.n so.left
      where
        by_left : (n : ℕ) → IsAt b at n → IsSome (finite.get now p)
        by_left zero left = so.done p within (none_at_end b at left p)
        by_left (suc n) left = absurd (both_ways (is_in_block b at) out (at_in b at n left))

-- outside of the block nothing changed
pub added_outside : (x : Cell) (b : Block) (m now : Contents Cell) → IsAdded x b m now → (p : Place) → is_in_block b p ≡ false → finite.get now p ≡ finite.get m p
added_outside x b m now added p out = of_case (added p)
  where
    of_case : (finite.get now p ≡ finite.get m p) ⊎ ((is_in_block b p ≡ true) × (finite.get m p ≡ None) × (finite.get now p ≡ Some x)) → finite.get now p ≡ finite.get m p
    of_case (inl e) = e
    of_case (inr i) = absurd (both_ways (is_in_block b p) out i.0)

module _ (b : Block) (m : Contents Cell) (inside : AreInSheet celled m) (ok : AreArrays celled m) where
  never_there : {P : Type 0} → is_in_sheet nowhere ≡ true → P
  never_there e = cc

  pub no_placeholder : (p : Place) (x : Cell) → finite.get m p ≡ Some x → is_placeholder x ≡ false
  no_placeholder p x e =
      by_side (is_placeholder x)
      (λ t.
      let o = ok.owned nowhere p (x, e, spill_shape nowhere (shape_of x) t) in
      never_there (inside nowhere o.3.0 o.3.1))
      (λ t. t)

  kept : (o : Option Cell) (t : Bool) → ((x : Cell) → o ≡ Some x → is_placeholder x ≡ false) → option_and_then (λ x. cond t (changed changes.TakePlaceholder x) (Some x)) o ≡ o
  kept None t h = refl
  kept (Some x) true h = ap (λ u. cond u None (Some x)) (h x refl)
  kept (Some x) false h = refl

  pub taken_back : (now after : Contents Cell) → IsMarked b m now → after ≡ changed_in b changes.TakePlaceholder now → after ≡ m
  taken_back now after marked e = e ∙ same_contents _ _ (λ p. get-remade _ now p ∙ of_case p (marked p))
    where
      of_case : (p : Place) → (finite.get now p ≡ finite.get m p) ⊎ ((is_in_block b p ≡ true) × (finite.get m p ≡ None) × (finite.get now p ≡ Some placeholder))
          → option_and_then (λ x. cond (is_in_block b p) (changed changes.TakePlaceholder x) (Some x)) (finite.get now p) ≡ finite.get m p
      of_case p (inl s) =
          ap (option_and_then (λ x. cond (is_in_block b p) (changed changes.TakePlaceholder x) (Some x))) s ∙ kept (finite.get m p) (is_in_block b p) (no_placeholder p)
      of_case p (inr i) =
          ap (option_and_then (λ x. cond (is_in_block b p) (changed changes.TakePlaceholder x) (Some x))) i.2
          ∙ ap (λ u. cond u (changed changes.TakePlaceholder placeholder) (Some placeholder)) i.0 ∙ sym i.1
