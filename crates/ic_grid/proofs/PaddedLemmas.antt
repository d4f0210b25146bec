-- Empty cells stand at the places of a block at which nothing stood: what holds of a sheet still does.
use Rattle.std.proofs.Common.{◌≡◌, ◌∙◌, ◌⊎◌, inl, inr, refl, sym, ap, subst, Bool, true, false, cond, List, length, Option, Some, None, is_some, IsSome}
use Rattle.std.proofs.lemmas.Bool.{both_ways}
use Rattle.std.specs.FinMap as finite
use Rattle.std.specs.Option.{option_and_then}
use Rattle.ic_cells.specs.declared.cell.Cell.{Cell}
use Rattle.ic_cells.specs.declared.cell.Cell.TheVariants as cells
use Rattle.ic_grid.proofs.ContentsLemmas.{get-remade}
use Rattle.ic_grid.proofs.RoomLemmas.{added_outside, no_placeholder}
use Rattle.ic_grid.proofs.RowLemmas.{IsAt, area_inside, at_first, first_left, placed_over}
use Rattle.ic_grid.specs.Arrays.{anchor_at, anchor_of, array_at, array_from, array_of, reaches}
use Rattle.ic_grid.specs.Block.{Place, first_place, is_area, is_in_block, is_in_sheet}
use Rattle.ic_grid.specs.Change.{changed, changed_in, is_placeholder, placeholder}
use Rattle.ic_grid.specs.Conditions.{AreArrays, AreInSheet, Has}
use Rattle.ic_grid.specs.Contents.{Contents}
use Rattle.ic_grid.specs.Prepare.{loosened, loosened_in}
use Rattle.ic_grid.specs.Room.{IsMarked, IsPadded}
use Rattle.ic_grid.specs.Rows.{IsFull, place_count, placed}
use Rattle.ic_grid.specs.Shape.{Anchor, Empty, Shape, SpillOf, celled, emptied, is_empty, shape_of}
use Rattle.ic_grid.specs.declared.block.Block.{Block}
use Rattle.ic_grid.specs.declared.changes.Change.TheVariants as changes

module _ (b : Block) (m : Contents Cell) (inside : AreInSheet celled m) (ok : AreArrays celled m) where
  kept : (o : Option Cell) (t : Bool) → ((x : Cell) → o ≡ Some x → is_placeholder x ≡ false) → option_and_then (λ x. cond t (changed changes.EmptyPlaceholder x) (Some x)) o ≡ o
  kept None t h = refl
  kept (Some x) true h = ap (λ u. cond u (Some (emptied celled x)) (Some x)) (h x refl)
  kept (Some x) false h = refl

  -- the placeholders are emptied
  pub padded : (now after : Contents Cell) → IsMarked b m now → after ≡ changed_in b changes.EmptyPlaceholder now → IsPadded b m after
  padded now after marked e = subst (λ (c : Contents Cell). IsPadded b m c) (sym e) (λ p. of_case p (marked p))
    where
      of_case : (p : Place) → (finite.get now p ≡ finite.get m p) ⊎ ((is_in_block b p ≡ true) × (finite.get m p ≡ None) × (finite.get now p ≡ Some placeholder))
          → (finite.get (changed_in b changes.EmptyPlaceholder now) p ≡ finite.get m p) ⊎ ((is_in_block b p ≡ true) × (finite.get m p ≡ None) × (finite.get (changed_in b changes.EmptyPlaceholder now) p ≡ Some (cells.EmptyCell 0)))
      of_case p (inl s) =
          inl (get-remade _ now p ∙ ap (option_and_then (λ x. cond (is_in_block b p) (changed changes.EmptyPlaceholder x) (Some x))) s
          ∙ kept (finite.get m p) (is_in_block b p) (no_placeholder b m inside ok p))
      of_case p (inr i) = inr (
        i.0,
        i.1,
        get-remade _ now p ∙ ap (option_and_then (λ x. cond (is_in_block b p) (changed changes.EmptyPlaceholder x) (Some x))) i.2
            ∙ ap (λ u. cond u (changed changes.EmptyPlaceholder placeholder) (Some placeholder)) i.0,
      )

-- something still stands at each place
pub padded_full : (b : Block) (now after : Contents Cell) → IsFull b now → after ≡ changed_in b changes.EmptyPlaceholder now → IsFull b after
padded_full b now after full e p within =
    subst (λ (c : Contents Cell). IsSome (finite.get c p)) (sym e) (ap is_some (get-remade _ now p) ∙ some (finite.get now p) (is_in_block b p) ∙ full p within)
  where
    either : (t : Bool) (x y : Cell) → is_some (cond t (Some x) (Some y)) ≡ true
    either true x y = refl
    either false x y = refl

    some : (o : Option Cell) (t : Bool) → is_some (option_and_then (λ x. cond t (changed changes.EmptyPlaceholder x) (Some x)) o) ≡ is_some o
    some None t = refl
    some (Some x) true = either (is_placeholder x) (emptied celled x) x
    some (Some x) false = refl

module _ (b : Block) (m n : Contents Cell) (added : IsPadded b m n) where
  was : (p : Place) (s : Shape) → Has celled n p s → is_empty s ≡ false → Has celled m p s
  was p s has full = of_case (added p)
    where
      of_case : (finite.get n p ≡ finite.get m p) ⊎ ((is_in_block b p ≡ true) × (finite.get m p ≡ None) × (finite.get n p ≡ Some (cells.EmptyCell 0))) → Has celled m p s
      of_case (inl e) = (has.0, sym e ∙ has.1, has.2)
      of_case (inr i) =
          let both : Some (cells.EmptyCell 0) ≡ Some has.0 = sym i.2 ∙ has.1 in
          let one : cells.EmptyCell 0 ≡ has.0 = cc in
          let empty : s ≡ Empty = sym has.2 ∙ ap shape_of (sym one) in
          absurd (both_ways (is_empty s) full (ap is_empty empty))

  still : (p : Place) (s : Shape) → Has celled m p s → Has celled n p s
  still p s has = of_case (added p)
    where
      of_case : (finite.get n p ≡ finite.get m p) ⊎ ((is_in_block b p ≡ true) × (finite.get m p ≡ None) × (finite.get n p ≡ Some (cells.EmptyCell 0))) → Has celled n p s
      of_case (inl e) = (has.0, e ∙ has.1, has.2)
      of_case (inr i) = let never : None ≡ Some has.0 = sym i.1 ∙ has.1 in cc

  pub padded_inside : is_area b ≡ true → AreInSheet celled m → AreInSheet celled n
  padded_inside area inside p x e = of_case (added p)
    where
      of_case : (finite.get n p ≡ finite.get m p) ⊎ ((is_in_block b p ≡ true) × (finite.get m p ≡ None) × (finite.get n p ≡ Some (cells.EmptyCell 0))) → is_in_sheet p ≡ true
      of_case (inl s) = inside p x (sym s ∙ e)
      of_case (inr i) = area_inside b area p i.0

  pub padded_arrays : AreArrays celled m → AreArrays celled n
  padded_arrays ok = record {
    areas = λ a w t k has. ok.areas a w t k (was a (Anchor w t k) has refl);
    filled = λ a p w t k has within other. still p (SpillOf a) (ok.filled a p w t k (was a (Anchor w t k) has refl) within other);
    owned = λ a p has.
        let o = ok.owned a p (was p (SpillOf a) has refl) in
        (o.0, o.1, o.2, still a (Anchor o.0 o.1 o.2) o.3, o.4);
  }

  -- each place belongs to the array that it belonged to
  same_array_of : (a : Place) → array_of celled n a ≡ array_of celled m a
  same_array_of a = of_case (added a)
    where
      of_case : (finite.get n a ≡ finite.get m a) ⊎ ((is_in_block b a ≡ true) × (finite.get m a ≡ None) × (finite.get n a ≡ Some (cells.EmptyCell 0))) → array_of celled n a ≡ array_of celled m a
      of_case (inl e) = ap (option_and_then (λ x. array_from a (shape_of x))) e
      of_case (inr i) = ap (option_and_then (λ x. array_from a (shape_of x))) i.2 ∙ sym (ap (option_and_then (λ x. array_from a (shape_of x))) i.1)

  same_anchor_at : (p : Place) → anchor_at celled n p ≡ anchor_at celled m p
  same_anchor_at p = of_case (added p)
    where
      of_case : (finite.get n p ≡ finite.get m p) ⊎ ((is_in_block b p ≡ true) × (finite.get m p ≡ None) × (finite.get n p ≡ Some (cells.EmptyCell 0))) → anchor_at celled n p ≡ anchor_at celled m p
      of_case (inl e) = ap (option_and_then (λ x. anchor_of p (shape_of x))) e
      of_case (inr i) = ap (option_and_then (λ x. anchor_of p (shape_of x))) i.2 ∙ sym (ap (option_and_then (λ x. anchor_of p (shape_of x))) i.1)

  same_array_at : (p : Place) → array_at celled n p ≡ array_at celled m p
  same_array_at p = ap (option_and_then (array_of celled n)) (same_anchor_at p) ∙ each (anchor_at celled m p)
    where
      each : (o : Option Place) → option_and_then (array_of celled n) o ≡ option_and_then (array_of celled m) o
      each None = refl
      each (Some a) = same_array_of a

  loosened_outside : (p : Place) → is_in_block b p ≡ false → finite.get (loosened_in celled b n) p ≡ finite.get (loosened_in celled b m) p
  loosened_outside p out =
      get-remade _ n p ∙ ap (λ a. option_and_then (λ x. Some (cond (reaches b a) (loosened celled x) x)) (finite.get n p)) (same_array_at p)
      ∙ ap (option_and_then (λ x. Some (cond (reaches b (array_at celled m p)) (loosened celled x) x))) (added_outside (cells.EmptyCell 0) b m n added p out) ∙ sym (get-remade _ m p)

  pub loosened_full : (now : Contents Cell) → IsFull b n → now ≡ loosened_in celled b n → IsFull b now
  loosened_full now full e p within =
      subst (λ (c : Contents Cell). IsSome (finite.get c p)) (sym e) (ap is_some (get-remade _ n p) ∙ some (finite.get n p) ∙ full p within)
    where
      some : (o : Option Cell) → is_some (option_and_then (λ x. Some (cond (reaches b (array_at celled n p)) (loosened celled x) x)) o) ≡ is_some o
      some None = refl
      some (Some x) = refl

  -- what is put at all places of the block stands in the sheet as it would without them
  pub padded_placed : is_area b ≡ true → (items : List Cell) → length items ≡ place_count b → (now after : Contents Cell) → now ≡ loosened_in celled b n → after ≡ placed b (first_place b) items now
      → after ≡ placed b (first_place b) items (loosened_in celled b m)
  padded_placed area items count now after e is =
      is ∙ ap (placed b (first_place b) items) e
      ∙ placed_over b items (first_place b) (subst (λ n. IsAt b (first_place b) n) (sym count) (at_first b area)) (loosened_in celled b n) (loosened_in celled b m)
      (λ p out. loosened_outside p (sym (first_left b p) ∙ out))
