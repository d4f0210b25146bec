-- All that holds of a sheet holds of one in which an array got its values: it is put into a sheet in which it was released.
use Rattle.std.proofs.Common.{◌≡◌, ◌∙◌, refl, sym, ap, subst, ℕ, ℤ, Bool, true, false, cond, ◌||◌, List, Option, Some, None}
use Rattle.std.proofs.lemmas.Bool.{both_ways}
use Rattle.std.specs.FinMap as finite
use Rattle.std.specs.Option.{option_and_then, option_map, unwrap_or}
use Rattle.ic_cells.specs.declared.cell.ArrayKind.{ArrayKind}
use Rattle.ic_cells.specs.declared.cell.Cell.{Cell}
use Rattle.ic_cells.specs.declared.layout.Merge.{Merge}
use Rattle.ic_grid.proofs.BlockLemmas.{first_in}
use Rattle.ic_grid.proofs.ContentsLemmas.{get-remade, same_is, same_turned}
use Rattle.ic_grid.proofs.LoosenLemmas.{Loosens, loosened_arrays, loosened_merges}
use Rattle.ic_grid.proofs.PlacedLemmas.{placed_arrays, placed_inside, placed_merges}
use Rattle.ic_grid.proofs.PrepareLemmas.{and_at, released_inside, released_is, released_loosens}
use Rattle.ic_grid.proofs.SpillFits.{Fits}
use Rattle.ic_grid.proofs.WalkLemmas.{by_side}
use Rattle.ic_grid.specs.Arrays.{anchor_at, anchor_of}
use Rattle.ic_grid.specs.Block.{Place, first_place, is_in_block, same_place}
use Rattle.ic_grid.specs.Conditions.{AreArrays, AreInSheet, AreMerges, Has}
use Rattle.ic_grid.specs.Contents.{Contents}
use Rattle.ic_grid.specs.Prepare.{anchor_reset, released, without_spill}
use Rattle.ic_grid.specs.Shape.{Anchor, Empty, Formula, Shape, SpillOf, Value, celled, is_loose, shape_of}
use Rattle.ic_grid.specs.Spill.{is_free}
use Rattle.ic_grid.specs.Value.{shape_at}
use Rattle.ic_grid.specs.declared.block.Block.{Block}
use Rattle.ic_laws.proofs.General.{chained as there}

pub second : (x y : Bool) → (x || y) ≡ true → x ≡ false → y ≡ true
second true y e f = cc
second false y e f = e

-- what is free for the array of a formula is of no other array
of_free : (a p c : Place) (s : Shape) → is_free a s ≡ true → anchor_of p s ≡ Some c → same_place c a ≡ true
of_free a p c Empty f e = cc
of_free a p c Value f e = cc
of_free a p c Formula f e = cc
of_free a p c (Anchor w t k) f e = cc
of_free a p c (SpillOf d) f e =
    let one : d ≡ c = cc in
    same_turned c a ∙ ap (same_place a) (sym one) ∙ f

module _ (merges : List Merge) (m after : Contents Cell) (b : Block) (count : ℕ) (kind : ArrayKind) (w0 t0 : ℤ) (inside : AreInSheet celled m) (ok : AreArrays celled m) (old : Has celled m (first_place b) (Anchor w0 t0 kind)) (fits : Fits merges m b count)
    (now : Has celled after (first_place b) (Anchor b.width b.height kind)) (rest : (p : Place) → is_in_block b p ≡ true → same_place p (first_place b) ≡ false → Has celled after p (SpillOf (first_place b)))
    (away : (p : Place) → is_in_block b p ≡ false → finite.get after p ≡ finite.get (without_spill celled (first_place b) m) p) where
  abbrev a : Place
  a = first_place b

  -- the sheet in which the array is released
  abbrev between : Contents Cell
  between = released celled a m

  abbrev test : Place → Bool
  test = and_at (λ c. false) a

  loosens : Loosens celled m between test
  loosens = subst (λ (c : Contents Cell). Loosens celled m c test) (sym (released_is m a)) (released_loosens m test)

  still_inside : AreInSheet celled between
  still_inside = subst (λ (c : Contents Cell). AreInSheet celled c) (sym (released_is m a)) (released_inside m test inside)

  still_arrays : AreArrays celled between
  still_arrays = loosened_arrays celled m between test loosens ok still_inside

  -- each place of the block is of no other array
  of_block : (p c : Place) → is_in_block b p ≡ true → anchor_at celled m p ≡ Some c → same_place c a ≡ true
  of_block p c within anchor = by_side (same_place p a) here elsewhere
    where
      x : (x : Cell) × (finite.get m p ≡ Some x) × (anchor_of p (shape_of x) ≡ Some c)
      x = there (λ x. anchor_of p (shape_of x)) (finite.get m p) c anchor

      here : same_place p a ≡ true → same_place c a ≡ true
      here s =
          let is : p ≡ a = same_is p a s in
          let both : Some x.0 ≡ Some old.0 = sym x.1 ∙ ap (finite.get m) is ∙ old.1 in
          let one : x.0 ≡ old.0 = cc in
          let anchors : Some p ≡ Some c = sym (ap (anchor_of p) (ap shape_of one ∙ old.2)) ∙ x.2 in
          let same : p ≡ c = cc in
          ap (λ (q : Place). same_place q a) (sym same) ∙ s

      elsewhere : same_place p a ≡ false → same_place c a ≡ true
      elsewhere s =
          let shape : shape_at celled m p ≡ shape_of x.0 = ap (λ o. unwrap_or (option_map shape_of o) Empty) x.1 in
          of_free a p c (shape_of x.0) (ap (is_free a) (sym shape) ∙ second (same_place p a) (is_free a (shape_at celled m p)) (fits.free p within) s) x.2

  loose : (p : Place) (x : Cell) → is_in_block b p ≡ true → finite.get between p ≡ Some x → is_loose (shape_of x) ≡ true
  loose p x within e = loosens.loose p (λ c anchor. of_block p c within anchor) x e

  outside : (p : Place) → is_in_block b p ≡ false → finite.get after p ≡ finite.get between p
  outside p out = away p out ∙ sym (get-remade _ (without_spill celled a m) p ∙ stays (finite.get (without_spill celled a m) p) (same_place p a) other)
    where
      other : same_place p a ≡ false
      other = by_side (same_place p a) (λ s. absurd (both_ways (is_in_block b p) out (ap (is_in_block b) (same_is p a s) ∙ first_in a b.width b.height fits.area))) (λ s. s)

      stays : (o : Option Cell) (t : Bool) → t ≡ false → option_and_then (λ x. Some (cond t (anchor_reset celled x) x)) o ≡ o
      stays None t e = refl
      stays (Some x) true e = cc
      stays (Some x) false e = refl

  pub spilled_arrays : AreArrays celled after
  spilled_arrays = placed_arrays between after b kind fits.area still_arrays loose now rest outside

  pub spilled_inside : AreInSheet celled after
  spilled_inside = placed_inside between after b kind fits.area still_arrays loose now rest outside still_inside

  pub spilled_merges : AreMerges celled m merges → AreMerges celled after merges
  spilled_merges good = placed_merges between after b kind fits.area still_arrays loose now rest outside merges fits.apart (loosened_merges celled m between test loosens merges good)
