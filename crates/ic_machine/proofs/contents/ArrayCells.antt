-- An array is written: what stands in its block then, and that arrays are whole and the merged cells apart from them.
use Rattle.std.proofs.Common.{◌≡◌, ◌∙◌, refl, sym, ap, ℕ, zero, suc, true, false, cond, List, [], Some}
use Rattle.std.proofs.lemmas.Bool.{and_from, both_ways}
use Rattle.std.specs.FinMap as finite
use Rattle.std.specs.Option.{option_map}
use Rattle.ic_laws.proofs.core.CellWritten.{place_cmp_total}
use Rattle.ic_cells.specs.declared.cell.ArrayKind.TheVariants as kinds
use Rattle.ic_cells.specs.declared.cell.Cell.{Cell}
use Rattle.ic_cells.specs.declared.layout.Merge.{Merge}
use Rattle.ic_cells.specs.declared.style.Style.{Style}
use Rattle.ic_cells.specs.declared.value.FormulaValue.TheVariants as fvalues
use Rattle.ic_cells.specs.declared.value.SpillValue.TheVariants as spills
use Rattle.ic_grid.proofs.BlockLemmas.{first_in}
use Rattle.ic_grid.proofs.ContentsLemmas.{same_is, same_itself}
use Rattle.ic_grid.proofs.LoosenLemmas.{loosened_arrays, loosened_merges}
use Rattle.ic_grid.proofs.PlacedLemmas.{placed_arrays, placed_inside, placed_merges}
use Rattle.ic_grid.proofs.ReachedLemmas.{loose_within, loosened_inside, loosened_loosens, reached}
use Rattle.ic_grid.proofs.RowLemmas.{IsAt, at_in, at_next, first_left, left_later, left_other, none_at_end, this_done}
use Rattle.ic_grid.proofs.WalkLemmas.{by_side, from_itself}
use Rattle.ic_grid.specs.Block.{Place, first_place, is_area, is_in_block, next_place, same_place}
use Rattle.ic_grid.specs.Conditions.{AreArrays, AreInSheet, Has}
use Rattle.ic_grid.specs.Contents.{Contents}
use Rattle.ic_grid.specs.Merges.{meets_merge}
use Rattle.ic_grid.specs.Prepare.{loosened_in}
use Rattle.ic_grid.specs.Whole.{IsGrid}
use Rattle.ic_grid.specs.Shape.{Anchor, Shape, SpillOf, celled, is_loose, shape_of}
use Rattle.ic_grid.specs.Spill.{array_written, with_blanks, written_style}
use Rattle.ic_grid.specs.Style.{Columns, Rows}
use Rattle.ic_grid.specs.Walk.{is_from, is_left}
use Rattle.ic_grid.specs.declared.block.Block.{Block}
use Rattle.ic_machine.specs.Content.{AnchorContent, Content, SpillContent, held}
use Rattle.ic_machine.proofs.contents.AlikeLemmas.{as_cell, contents_are_cells}
use Rattle.ic_machine.proofs.contents.SeenLemmas.{is_seen_as, released_seen, seen_as, seen_to}
use Rattle.ic_machine.proofs.contents.WholeLemmas.{IsWhole, as_grid, whole_as, whole_back}

-- the cells of the array ----

module _ (rows : Rows) (columns : Columns) (b : Block) where
  blanks_away : (n : ℕ) (q : Place) (m : Contents Content) (styles : List Style) → IsAt b q n → (p : Place) → is_left b q p ≡ false → finite.get (with_blanks held rows columns b n q m styles).0 p ≡ finite.get m p
  blanks_away zero q m styles at p out = refl
  blanks_away (suc n) q m styles at p out =
      blanks_away n (next_place b q) (finite.insert m q (SpillContent (first_place b) (spills.Text []) (written_style held rows columns m styles q).0)) (written_style held rows columns m styles q).1 (at_next b q n at) p
      (by_side (is_left b (next_place b q) p) (λ t. absurd (both_ways (is_left b q p) out (left_later b q n at p t))) (λ t. t))
      ∙ finite.get-insert place_cmp_total m q (SpillContent (first_place b) (spills.Text []) (written_style held rows columns m styles q).0) p
      ∙ ap (λ t. cond t (Some (SpillContent (first_place b) (spills.Text []) (written_style held rows columns m styles q).0)) (finite.get m p)) apart
    where
      apart : same_place p q ≡ false
      apart = by_side (same_place p q) (λ s. absurd (both_ways (is_left b q p) out (ap (is_left b q) (same_is p q s) ∙ and_from (is_in_block b q) (is_from q q) (at_in b q n at) (from_itself q)))) (λ s. s)

  blanks_at : (n : ℕ) (q : Place) (m : Contents Content) (styles : List Style) → IsAt b q n → (p : Place) → is_left b q p ≡ true → Has held (with_blanks held rows columns b n q m styles).0 p (SpillOf (first_place b))
  blanks_at zero q m styles at p left = absurd (both_ways (is_left b q p) (none_at_end b q at p) left)
  blanks_at (suc n) q m styles at p left =
      let x : Content = SpillContent (first_place b) (spills.Text []) (written_style held rows columns m styles q).0 in
      by_side (same_place p q)
      (λ s. (
        x,
        blanks_away n (next_place b q) (finite.insert m q x) (written_style held rows columns m styles q).1 (at_next b q n at) p (ap (is_left b (next_place b q)) (same_is p q s) ∙ this_done b q n at)
            ∙ finite.get-insert place_cmp_total m q x p ∙ ap (λ t. cond t (Some x) (finite.get m p)) s,
        refl,
      ))
      (λ s. blanks_at n (next_place b q) (finite.insert m q x) (written_style held rows columns m styles q).1 (at_next b q n at) p (left_other b q n at p left s))

  -- what is left is whole
  pub written_array_whole : (merges : List Merge) (m : Contents Content) (more f : ℕ) (styles : List Style) → is_area b ≡ true → meets_merge merges b ≡ false → IsAt b (first_place b) (suc more) → IsWhole merges m
      → IsWhole merges (array_written held rows columns b more f m styles).0
  written_array_whole merges m more f styles area apart at w =
      whole_back rows columns merges left e (is_seen_as as_cell left) (record {
        inside = placed_inside lc e b kinds.Cse area arrays loose first others out inside;
        arrays = placed_arrays lc e b kinds.Cse area arrays loose first others out;
        merges = placed_merges lc e b kinds.Cse area arrays loose first others out merges (λ many. apart) (loosened_merges celled c lc (reached c b) (loosened_loosens c b) merges before.merges);
      })
    where
      between : Contents Content
      between = loosened_in held b m

      x : Content
      x = AnchorContent f (b.width, b.height) kinds.Cse fvalues.Unevaluated (written_style held rows columns m styles (first_place b)).0

      styled : List Style
      styled = (written_style held rows columns m styles (first_place b)).1

      after : IsAt b (next_place b (first_place b)) more
      after = at_next b (first_place b) more at

      now : Has held (array_written held rows columns b more f m styles).0 (first_place b) (Anchor b.width b.height kinds.Cse)
      now = (
        x,
        blanks_away more (next_place b (first_place b)) (finite.insert between (first_place b) x) styled after (first_place b) (this_done b (first_place b) more at)
            ∙ finite.get-insert place_cmp_total between (first_place b) x (first_place b) ∙ ap (λ t. cond t (Some x) (finite.get between (first_place b))) (same_itself (first_place b)),
        refl,
      )

      rest : (p : Place) → is_in_block b p ≡ true → same_place p (first_place b) ≡ false → Has held (array_written held rows columns b more f m styles).0 p (SpillOf (first_place b))
      rest p i s = blanks_at more (next_place b (first_place b)) (finite.insert between (first_place b) x) styled after p (left_other b (first_place b) more at p (first_left b p ∙ i) s)

      away : (p : Place) → is_in_block b p ≡ false → finite.get (array_written held rows columns b more f m styles).0 p ≡ finite.get between p
      away p out =
          let left : is_left b (first_place b) p ≡ false = first_left b p ∙ out in
          blanks_away more (next_place b (first_place b)) (finite.insert between (first_place b) x) styled after p
          (by_side (is_left b (next_place b (first_place b)) p) (λ t. absurd (both_ways (is_left b (first_place b) p) left (left_later b (first_place b) more at p t))) (λ t. t))
          ∙ finite.get-insert place_cmp_total between (first_place b) x p
          ∙ ap (λ t. cond t (Some x) (finite.get between p))
          (by_side (same_place p (first_place b)) (λ s. absurd (both_ways (is_in_block b p) out (ap (is_in_block b) (same_is p (first_place b) s) ∙ first_in (first_place b) b.width b.height area))) (λ s. s))

      left : Contents Content
      left = (array_written held rows columns b more f m styles).0

      -- before, with the arrays of the block released, and afterwards, as cells
      c : Contents Cell
      c = seen_as as_cell m

      lc : Contents Cell
      lc = loosened_in celled b c

      e : Contents Cell
      e = seen_as as_cell left

      before : IsGrid (as_grid rows columns merges c)
      before = whole_as rows columns merges m c (is_seen_as as_cell m) w

      inside : AreInSheet celled lc
      inside = loosened_inside c b before.inside

      arrays : AreArrays celled lc
      arrays = loosened_arrays celled c lc (reached c b) (loosened_loosens c b) before.arrays inside

      loose : (p : Place) (y : Cell) → is_in_block b p ≡ true → finite.get lc p ≡ Some y → is_loose (shape_of y) ≡ true
      loose p y i here = loose_within c b before.arrays p y i here

      to : (p : Place) (s : Shape) → Has held left p s → Has celled e p s
      to = seen_to as_cell held celled contents_are_cells left e (is_seen_as as_cell left)

      first : Has celled e (first_place b) (Anchor b.width b.height kinds.Cse)
      first = to (first_place b) (Anchor b.width b.height kinds.Cse) now

      others : (p : Place) → is_in_block b p ≡ true → same_place p (first_place b) ≡ false → Has celled e p (SpillOf (first_place b))
      others p i s = to p (SpillOf (first_place b)) (rest p i s)

      out : (p : Place) → is_in_block b p ≡ false → finite.get e p ≡ finite.get lc p
      out p o = is_seen_as as_cell left p ∙ ap (option_map as_cell) (away p o) ∙ sym (released_seen as_cell held celled contents_are_cells m c (is_seen_as as_cell m) b p)
