-- The cells of an array that is written into a block, one after another, and the styles that they get.
use Rattle.std.proofs.Common.{◌≡◌, ◌∙◌, refl, sym, ap, subst, ℕ, zero, suc, ◌<◌, ◌≤◌, ◌-◌, true, false, cond, List, [], ◌∷◌, ◌++◌, length, Some, append_assoc, append-nil, arith}
use Rattle.std.proofs.lemmas.Bool.{and_from, both_ways}
use Rattle.std.specs.FinMap as finite
use Rattle.std.specs.Option.{option_map}
use Rattle.ic_cells.specs.Cell.{style_of}
use Rattle.ic_cells.specs.declared.cell.ArrayKind.TheVariants as kinds
use Rattle.ic_cells.specs.declared.cell.Cell.{Cell}
use Rattle.ic_cells.specs.declared.style.Style.{Style}
use Rattle.ic_cells.specs.declared.value.SpillValue.TheVariants as spills
use Rattle.ic_laws.proofs.core.CellWritten.{place_cmp_total}
use Rattle.ic_grid.proofs.BlockLemmas.{first_in}
use Rattle.ic_grid.proofs.ContentsLemmas.{insert_away, same_is, same_itself}
use Rattle.ic_grid.proofs.ReachedLemmas.{loosened_styles}
use Rattle.ic_grid.proofs.RowLemmas.{IsAt, at_first, at_in, at_next, first_left, left_apart, left_later, left_other, none_at_end, placed_away, this_done}
use Rattle.ic_grid.proofs.StyleLemmas.{start_longer, start_more, start_same, style_by, styled_more, written_below, written_more}
use Rattle.ic_grid.proofs.WalkLemmas.{by_side, from_itself}
use Rattle.ic_grid.specs.Block.{Place, first_place, is_area, is_in_block, next_place, same_place}
use Rattle.ic_grid.specs.Contents.{Contents}
use Rattle.ic_grid.specs.Prepare.{loosened_in}
use Rattle.ic_grid.specs.Rows.{place_count, placed}
use Rattle.ic_grid.specs.Shape.{celled}
use Rattle.ic_grid.specs.Spill.{array_written, unquoted, with_blanks, written_style}
use Rattle.ic_grid.specs.Walk.{is_from, is_left}
use Rattle.ic_grid.specs.Whole.{IsStyled}
use Rattle.ic_grid.specs.Written.{StartWith, all_blank, blank_cell, blank_cells, written_style_of, written_array}
use Rattle.ic_grid.specs.declared.block.Block.{Block}
use Rattle.ic_grid.specs.declared.grid.Grid.{Grid}

module _ (grid : Grid) (b : Block) (f : ℕ) where
  module _ (old : List Style) where
    -- these cells and those of the places from one on are those of all places, and so are the styles
    pub record IsWriting (items : List Cell) (at : Place) (styles : List Style) : Type 0 where
      pub n : ℕ
      pub left : IsAt b at n
      pub cells : items ++ (blank_cells grid b f n at styles).0 ≡ (all_blank grid b f old).0
      pub rest : (blank_cells grid b f n at styles).1 ≡ (all_blank grid b f old).1
      pub more : StartWith styles old

    pub writing_begun : is_area b ≡ true → (items : List Cell) → items ≡ [] → (at : Place) → at ≡ first_place b → IsWriting items at old
    writing_begun area items none at e =
        subst (λ (p : Place). IsWriting items p old) (sym e) (record {
          n = place_count b;
          left = at_first b area;
          cells = ap (λ xs. xs ++ (all_blank grid b f old).0) none;
          rest = refl;
          more = start_same old old refl;
        })

    module _ (items : List Cell) (at : Place) (styles : List Style) (so : IsWriting items at styles) where
      pub writing_more : is_in_block b at ≡ true → (now : List Style) → now ≡ (written_style_of grid styles at).1 → (s : ℕ) → s ≡ (written_style_of grid styles at).0 → (after : List Cell) (x : Cell) → after ≡ items ++ x ∷ [] → x ≡ blank_cell b f s at
          → (next : Place) → next ≡ next_place b at → IsWriting after next now
      writing_more within now joined s number after x e same next is = by_left so.n so.left so.cells so.rest
        where
          by_left : (n : ℕ) → IsAt b at n → items ++ (blank_cells grid b f n at styles).0 ≡ (all_blank grid b f old).0 → (blank_cells grid b f n at styles).1 ≡ (all_blank grid b f old).1 → IsWriting after next now
          by_left zero left cells rest =
              absurd (both_ways (is_left b at at) (none_at_end b at left at) (and_from (is_in_block b at) (is_from at at) within (from_itself at)))
          by_left (suc n) left cells rest =
              subst (λ (p : Place). IsWriting after p now) (sym is)
              (subst (λ (l : List Style). IsWriting after (next_place b at) l) (sym joined) (record {
                n = n;
                left = at_next b at n left;
                cells =
                    ap (λ xs. xs ++ (blank_cells grid b f n (next_place b at) (written_style_of grid styles at).1).0) (e ∙ ap (λ y. items ++ y ∷ []) (same ∙ ap (λ k. blank_cell b f k at) number))
                    ∙ append_assoc items (blank_cell b f (written_style_of grid styles at).0 at ∷ []) (blank_cells grid b f n (next_place b at) (written_style_of grid styles at).1).0 ∙ cells;
                rest = rest;
                more = start_more old styles (written_style_of grid styles at).1 so.more (written_more grid styles at);
              }))

      pub writing_done : is_in_block b at ≡ false → (items ≡ (all_blank grid b f old).0) × (styles ≡ (all_blank grid b f old).1)
      writing_done out = by_left so.n so.left so.cells so.rest
        where
          by_left : (n : ℕ) → IsAt b at n → items ++ (blank_cells grid b f n at styles).0 ≡ (all_blank grid b f old).0 → (blank_cells grid b f n at styles).1 ≡ (all_blank grid b f old).1 → (items ≡ (all_blank grid b f old).0) × (styles ≡ (all_blank grid b f old).1)
          by_left zero left cells rest = (sym (append-nil items) ∙ cells, rest)
          by_left (suc n) left cells rest = absurd (both_ways (is_in_block b at) out (at_in b at n left))

  pub blank_length : (n : ℕ) (q : Place) (styles : List Style) → length (blank_cells grid b f n q styles).0 ≡ n
  blank_length zero q styles = refl
  blank_length (suc n) q styles = ap suc (blank_length n (next_place b q) (written_style_of grid styles q).1)

  pub blank_more : (n : ℕ) (q : Place) (styles : List Style) → StartWith (blank_cells grid b f n q styles).1 styles
  blank_more zero q styles = start_same styles styles refl
  blank_more (suc n) q styles =
      start_more styles (written_style_of grid styles q).1 (blank_cells grid b f n (next_place b q) (written_style_of grid styles q).1).1 (written_more grid styles q) (blank_more n (next_place b q) (written_style_of grid styles q).1)

  -- what stands where, once they are put there, and that its style is one of those that there are grown
  pub blank_at : (n : ℕ) (q : Place) → IsAt b q n → (styles : List Style) → 0 < length styles → IsStyled styles grid → (c : Contents Cell) (p : Place) → is_left b q p ≡ true
      → (s : ℕ) × (finite.get (placed b q (blank_cells grid b f n q styles).0 c) p ≡ Some (blank_cell b f s p)) × (s < length (blank_cells grid b f n q styles).1)
  blank_at zero q at styles some ok c p left = absurd (both_ways (is_left b q p) (none_at_end b q at p) left)
  blank_at (suc n) q at styles some ok c p left =
      by_side (same_place p q) here
      (λ s. blank_at n (next_place b q) (at_next b q n at) (written_style_of grid styles q).1 (omega (arith, some, longer)) (styled_more grid styles ok (written_style_of grid styles q).1 (written_more grid styles q)) (finite.insert c q x) p (left_other b q n at p left s))
    where
      x : Cell
      x = blank_cell b f (written_style_of grid styles q).0 q

      longer : length styles ≤ length (written_style_of grid styles q).1
      longer = start_longer styles (written_style_of grid styles q).1 (written_more grid styles q)

      here : same_place p q ≡ true → (s : ℕ) × (finite.get (placed b q (blank_cells grid b f (suc n) q styles).0 c) p ≡ Some (blank_cell b f s p)) × (s < length (blank_cells grid b f (suc n) q styles).1)
      here s =
          let e : p ≡ q = same_is p q s in
          let grown : List Style = (written_style_of grid styles q).1 in
          let below = written_below grid styles ok some q in
          let last = start_longer grown (blank_cells grid b f n (next_place b q) grown).1 (blank_more n (next_place b q) grown) in (
            (written_style_of grid styles q).0,
            placed_away b (blank_cells grid b f n (next_place b q) grown).0 (next_place b q) (subst (λ k. IsAt b (next_place b q) k) (sym (blank_length n (next_place b q) grown)) (at_next b q n at)) (finite.insert c q x) p (ap (is_left b (next_place b q)) e ∙ this_done b q n at)
                ∙ finite.get-insert place_cmp_total c q x p ∙ ap (λ t. cond t (Some x) (finite.get c p)) s ∙ ap (λ z. Some (blank_cell b f (written_style_of grid styles q).0 z)) (sym e),
            omega (arith, below, last),
          )

  -- they are put there one after another, each in the style that its place has by now
  blanks_placed : (n : ℕ) (q : Place) → IsAt b q n → is_left b q (first_place b) ≡ false → (k : Contents Cell) → ((p : Place) → is_left b q p ≡ true → option_map style_of (finite.get k p) ≡ option_map style_of (finite.get grid.cells p)) → (styles : List Style)
      → with_blanks celled grid.rows grid.columns b n q k styles ≡ (placed b q (blank_cells grid b f n q styles).0 k, (blank_cells grid b f n q styles).1)
  blanks_placed zero q at other k h styles = refl
  blanks_placed (suc n) q at other k h styles =
      ap (λ (w : ℕ × List Style). with_blanks celled grid.rows grid.columns b n (next_place b q) (finite.insert k q (celled.spill w.0 (first_place b) (spills.Text []))) w.1) same
      ∙ ap (λ y. with_blanks celled grid.rows grid.columns b n (next_place b q) (finite.insert k q y) (written_style_of grid styles q).1) (sym spill)
      ∙ blanks_placed n (next_place b q) (at_next b q n at) (by_side (is_left b (next_place b q) (first_place b)) (λ t. absurd (both_ways (is_left b q (first_place b)) other (left_later b q n at (first_place b) t))) (λ t. t))
      (finite.insert k q x) (λ p left. ap (option_map style_of) (insert_away k q x p (left_apart b q n at p left)) ∙ h p (left_later b q n at p left)) (written_style_of grid styles q).1
    where
      here : is_left b q q ≡ true
      here = and_from (is_in_block b q) (is_from q q) (at_in b q n at) (from_itself q)

      same : written_style celled grid.rows grid.columns k styles q ≡ written_style_of grid styles q
      same = ap (unquoted styles) (style_by grid.rows grid.columns k grid.cells q (h q here))

      x : Cell
      x = blank_cell b f (written_style_of grid styles q).0 q

      apart : same_place q (first_place b) ≡ false
      apart = by_side (same_place q (first_place b)) (λ t. absurd (both_ways (is_left b q (first_place b)) other (ap (is_left b q) (sym (same_is q (first_place b) t)) ∙ here))) (λ t. t)

      spill : x ≡ celled.spill (written_style_of grid styles q).0 (first_place b) (spills.Text [])
      spill = ap (λ t. cond t (celled.array f (written_style_of grid styles q).0 b.width b.height kinds.Cse) (celled.spill (written_style_of grid styles q).0 (first_place b) (spills.Text []))) apart

  -- so to write the array is to release the arrays with a cell in the block, and to put them there
  pub written_placed : is_area b ≡ true → (styles : List Style)
      → written_array grid b f styles ≡ (placed b (first_place b) (all_blank grid b f styles).0 (loosened_in celled b grid.cells), (all_blank grid b f styles).1)
  written_placed area styles = by_count (place_count b) refl
    where
      by_count : (n : ℕ) → place_count b ≡ n → written_array grid b f styles ≡ (placed b (first_place b) (all_blank grid b f styles).0 (loosened_in celled b grid.cells), (all_blank grid b f styles).1)
      by_count zero e =
          absurd (both_ways (is_left b (first_place b) (first_place b)) (none_at_end b (first_place b) (subst (λ n. IsAt b (first_place b) n) e (at_first b area)) (first_place b))
          (first_left b (first_place b) ∙ first_in (first_place b) b.width b.height area))
      by_count (suc n) e =
          ap (λ k. array_written celled grid.rows grid.columns b k f grid.cells styles) less
          ∙ ap (λ y. with_blanks celled grid.rows grid.columns b n next (finite.insert (loosened_in celled b grid.cells) (first_place b) y) w.1) (sym anchor)
          ∙ blanks_placed n next (at_next b (first_place b) n at) (this_done b (first_place b) n at) (finite.insert (loosened_in celled b grid.cells) (first_place b) x)
          (λ p left. ap (option_map style_of) (insert_away (loosened_in celled b grid.cells) (first_place b) x p (left_apart b (first_place b) n at p left)) ∙ loosened_styles grid.cells b p) w.1
          ∙ ap (λ k. let all : Contents Cell × List Style = (placed b (first_place b) (blank_cells grid b f k (first_place b) styles).0 (loosened_in celled b grid.cells), (blank_cells grid b f k (first_place b) styles).1) in all) (sym e)
        where
          next : Place
          next = next_place b (first_place b)

          at : IsAt b (first_place b) (suc n)
          at = subst (λ k. IsAt b (first_place b) k) e (at_first b area)

          less : place_count b - 1 ≡ n
          less = omega (arith, e)

          w : ℕ × List Style
          w = written_style_of grid styles (first_place b)

          x : Cell
          x = blank_cell b f w.0 (first_place b)

          anchor : x ≡ celled.array f w.0 b.width b.height kinds.Cse
          anchor = ap (λ t. cond t (celled.array f w.0 b.width b.height kinds.Cse) (celled.spill w.0 (first_place b) (spills.Text []))) (same_itself (first_place b))
