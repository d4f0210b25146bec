-- An array is put into a block of a sheet in which nothing of an array of more than one cell stands: all that holds of a
-- sheet still does.
use Rattle.std.proofs.Common.{◌≡◌, ◌∙◌, sym, ap, ap₂, subst, ℤ, true, false, List, Some}
use Rattle.std.proofs.lemmas.Bool.{both_ways}
use Rattle.std.specs.FinMap as finite
use Rattle.std.specs.Option.{option_and_then}
use Rattle.ic_cells.specs.declared.cell.ArrayKind.{ArrayKind}
use Rattle.ic_cells.specs.declared.cell.Cell.{Cell}
use Rattle.ic_cells.specs.declared.layout.Merge.{Merge}
use Rattle.ic_grid.proofs.ArrayLemmas.{array_there, one_shape}
use Rattle.ic_grid.proofs.BlockLemmas.{block_of_one}
use Rattle.ic_grid.proofs.ContentsLemmas.{same_is}
use Rattle.ic_grid.proofs.RowLemmas.{area_inside}
use Rattle.ic_grid.proofs.WalkLemmas.{by_side}
use Rattle.ic_grid.specs.Arrays.{array_from, array_of}
use Rattle.ic_grid.specs.Block.{Place, block_at, first_place, is_area, is_in_block, is_single, same_place}
use Rattle.ic_grid.specs.Conditions.{AreArrays, AreInSheet, AreMerges, Has}
use Rattle.ic_grid.specs.Contents.{Contents}
use Rattle.ic_grid.specs.Merges.{meets_merge}
use Rattle.ic_grid.specs.Shape.{Anchor, Shape, SpillOf, celled, is_loose, shape_of}
use Rattle.ic_grid.specs.declared.block.Array.{Array}
use Rattle.ic_grid.specs.declared.block.Block.{Block}

no_shape : {P : Type 0} (w t : ℤ) (k : ArrayKind) (a : Place) → Anchor w t k ≡ SpillOf a → P
no_shape w t k a e = cc

module _ (m after : Contents Cell) (b : Block) (kind : ArrayKind) (area : is_area b ≡ true) (ok : AreArrays celled m)
    (loose : (p : Place) (x : Cell) → is_in_block b p ≡ true → finite.get m p ≡ Some x → is_loose (shape_of x) ≡ true)
    (now : Has celled after (first_place b) (Anchor b.width b.height kind)) (rest : (p : Place) → is_in_block b p ≡ true → same_place p (first_place b) ≡ false → Has celled after p (SpillOf (first_place b)))
    (away : (p : Place) → is_in_block b p ≡ false → finite.get after p ≡ finite.get m p) where
  abbrev a : Place
  a = first_place b

  was : (p : Place) (s : Shape) → is_in_block b p ≡ false → Has celled after p s → Has celled m p s
  was p s out has = (has.0, sym (away p out) ∙ has.1, has.2)

  still : (p : Place) (s : Shape) → is_in_block b p ≡ false → Has celled m p s → Has celled after p s
  still p s out has = (has.0, away p out ∙ has.1, has.2)

  is_loose_at : (p : Place) (s : Shape) → is_in_block b p ≡ true → Has celled m p s → is_loose s ≡ true
  is_loose_at p s within has = sym (ap is_loose has.2) ∙ loose p has.0 within has.1

  no_spill : (p c : Place) → Has celled m p (SpillOf c) → is_in_block b p ≡ false
  no_spill p c has = by_side (is_in_block b p) (λ i. let never : false ≡ true = is_loose_at p (SpillOf c) i has in cc) (λ i. i)

  -- the array of a formula in the block is the new one
  in_anchor : (p : Place) (w t : ℤ) (k : ArrayKind) → Has celled after p (Anchor w t k) → is_in_block b p ≡ true → (p ≡ a) × (block_at p w t ≡ b)
  in_anchor p w t k has i = by_side (same_place p a) here elsewhere
    where
      here : same_place p a ≡ true → (p ≡ a) × (block_at p w t ≡ b)
      here s =
          let is : p ≡ a = same_is p a s in
          let there_now : Has celled after a (Anchor w t k) = subst (λ (q : Place). Has celled after q (Anchor w t k)) is has in
          let same : Anchor w t k ≡ Anchor b.width b.height kind = one_shape celled after a (Anchor w t k) (Anchor b.width b.height kind) there_now now in
          let wide : w ≡ b.width = cc in
          let high : t ≡ b.height = cc in
          (is, ap (λ (q : Place). block_at q w t) is ∙ ap₂ (λ (n l : ℤ). block_at a n l) wide high)

      elsewhere : same_place p a ≡ false → (p ≡ a) × (block_at p w t ≡ b)
      elsewhere s = no_shape w t k a (one_shape celled after p (Anchor w t k) (SpillOf a) has (rest p i s))

  pub placed_arrays : AreArrays celled after
  placed_arrays = record { areas = areas; filled = filled; owned = owned }
    where
      areas : (p : Place) (w t : ℤ) (k : ArrayKind) → Has celled after p (Anchor w t k) → is_area (block_at p w t) ≡ true
      areas p w t k has =
          by_side (is_in_block b p) (λ i. ap is_area (in_anchor p w t k has i).1 ∙ area)
          (λ out. ok.areas p w t k (was p (Anchor w t k) out has))

      filled : (c p : Place) (w t : ℤ) (k : ArrayKind) → Has celled after c (Anchor w t k) → is_in_block (block_at c w t) p ≡ true → same_place p c ≡ false → Has celled after p (SpillOf c)
      filled c p w t k has within other = by_side (is_in_block b c) here elsewhere
        where
          here : is_in_block b c ≡ true → Has celled after p (SpillOf c)
          here i =
              let is = in_anchor c w t k has i in
              subst (λ (q : Place). Has celled after p (SpillOf q)) (sym is.0) (rest p (ap (λ (d : Block). is_in_block d p) (sym is.1) ∙ within) (ap (same_place p) (sym is.0) ∙ other))

          elsewhere : is_in_block b c ≡ false → Has celled after p (SpillOf c)
          elsewhere out =
              let spill = ok.filled c p w t k (was c (Anchor w t k) out has) within other in
              still p (SpillOf c) (no_spill p c spill) spill

      owned : (c p : Place) → Has celled after p (SpillOf c) → (w : ℤ) × (t : ℤ) × (k : ArrayKind) × Has celled after c (Anchor w t k) × (is_in_block (block_at c w t) p ≡ true)
      owned c p has = by_side (is_in_block b p) here elsewhere
        where
          here : is_in_block b p ≡ true → (w : ℤ) × (t : ℤ) × (k : ArrayKind) × Has celled after c (Anchor w t k) × (is_in_block (block_at c w t) p ≡ true)
          here i = by_side (same_place p a) at_a at_rest
            where
              at_a : same_place p a ≡ true → (w : ℤ) × (t : ℤ) × (k : ArrayKind) × Has celled after c (Anchor w t k) × (is_in_block (block_at c w t) p ≡ true)
              at_a s = no_shape b.width b.height kind c (one_shape celled after a (Anchor b.width b.height kind) (SpillOf c) now (subst (λ (q : Place). Has celled after q (SpillOf c)) (same_is p a s) has))

              at_rest : same_place p a ≡ false → (w : ℤ) × (t : ℤ) × (k : ArrayKind) × Has celled after c (Anchor w t k) × (is_in_block (block_at c w t) p ≡ true)
              at_rest s =
                  let same : SpillOf a ≡ SpillOf c = one_shape celled after p (SpillOf a) (SpillOf c) (rest p i s) has in
                  let one : a ≡ c = cc in
                  (b.width, b.height, kind, subst (λ (q : Place). Has celled after q (Anchor b.width b.height kind)) one now, ap (λ (q : Place). is_in_block (block_at q b.width b.height) p) (sym one) ∙ i)

          elsewhere : is_in_block b p ≡ false → (w : ℤ) × (t : ℤ) × (k : ArrayKind) × Has celled after c (Anchor w t k) × (is_in_block (block_at c w t) p ≡ true)
          elsewhere out =
              let o = ok.owned c p (was p (SpillOf c) out has) in
              (o.0, o.1, o.2, still c (Anchor o.0 o.1 o.2) (by_side (is_in_block b c) (λ i. one_alone c o.0 o.1 o.2 o.3 o.4 i) (λ i. i)) o.3, o.4)
            where
              one_alone : (c : Place) (w t : ℤ) (k : ArrayKind) → Has celled m c (Anchor w t k) → is_in_block (block_at c w t) p ≡ true → is_in_block b c ≡ true → is_in_block b c ≡ false
              one_alone c w t k anchor within i =
                  absurd (both_ways (is_in_block b p) out (ap (is_in_block b) (same_is p c (block_of_one c p w t (is_loose_at c (Anchor w t k) i anchor) within)) ∙ i))

  pub placed_inside : AreInSheet celled m → AreInSheet celled after
  placed_inside inside p x e = by_side (is_in_block b p) (area_inside b area p) (λ out. inside p x (sym (away p out) ∙ e))

  pub placed_merges : (merges : List Merge) → (is_single b ≡ false → meets_merge merges b ≡ false) → AreMerges celled m merges → AreMerges celled after merges
  placed_merges merges apart good = record { areas = good.areas; apart = good.apart; arrays = arrays }
    where
      arrays : (c : Place) (array : Array) → array_of celled after c ≡ Some array → is_single array.block ≡ false → meets_merge merges array.block ≡ false
      arrays c array e many =
          let t = array_there celled after c array e in
          by_side (is_in_block b c)
          (λ i.
          let same : b ≡ array.block = sym (in_anchor c t.0 t.1 t.2 t.3 i).1 ∙ ap (λ (r : Array). r.block) t.4 in
          ap (meets_merge merges) (sym same) ∙ apart (ap is_single same ∙ many))
          (λ out. good.arrays c array (ap (option_and_then (λ x. array_from c (shape_of x))) (sym (away c out)) ∙ e) many)
