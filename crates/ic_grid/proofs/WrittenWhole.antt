-- All that holds of a sheet holds of one into which an array was written, with the styles then.
use Rattle.std.proofs.Common.{◌≡◌, ◌∙◌, refl, sym, ap, subst, ℕ, ◌<◌, Bool, true, false, cond, List, [], length, Option, Some, None, Ok}
use Rattle.std.specs.FinMap as finite
use Rattle.std.specs.Option.{option_map}
use Rattle.ic_cells.specs.Cell.{style_of}
use Rattle.ic_cells.specs.declared.cell.ArrayKind.TheVariants as kinds
use Rattle.ic_cells.specs.declared.cell.Cell.{Cell}
use Rattle.ic_cells.specs.declared.style.Style.{Style}
use Rattle.ic_cells.specs.declared.value.SpillValue.TheVariants as spills
use Rattle.ic_grid.proofs.BlockLemmas.{first_in}
use Rattle.ic_grid.proofs.ContentsLemmas.{same_itself}
use Rattle.ic_grid.proofs.LoosenLemmas.{loosened_arrays, loosened_merges}
use Rattle.ic_grid.proofs.PlacedLemmas.{placed_arrays, placed_inside, placed_merges}
use Rattle.ic_grid.proofs.ReachedLemmas.{loose_within, loosened_inside, loosened_loosens, loosened_styles, reached}
use Rattle.ic_grid.proofs.RowLemmas.{IsAt, at_first, first_left, placed_away}
use Rattle.ic_grid.proofs.StyleLemmas.{styled_more}
use Rattle.ic_grid.proofs.WalkLemmas.{by_side}
use Rattle.ic_grid.proofs.WrittenLemmas.{blank_at, blank_length, blank_more, written_placed}
use Rattle.ic_grid.specs.Block.{Place, first_place, is_area, is_in_block, same_place}
use Rattle.ic_grid.specs.Calls.{Answer, refused_by}
use Rattle.ic_grid.specs.Conditions.{AreArrays, AreInSheet, Has}
use Rattle.ic_grid.specs.Contents.{Contents}
use Rattle.ic_grid.specs.Merges.{meets_merge}
use Rattle.ic_grid.specs.Prepare.{loosened_in}
use Rattle.ic_grid.specs.Rows.{place_count, placed}
use Rattle.ic_grid.specs.Shape.{Anchor, SpillOf, celled, shape_of}
use Rattle.ic_grid.specs.Whole.{IsGrid, IsStyled}
use Rattle.ic_grid.specs.Written.{all_blank, blank_cell, with_array}
use Rattle.ic_grid.specs.declared.block.Block.{Block}
use Rattle.ic_grid.specs.declared.error.GridError.TheVariants as errors
use Rattle.ic_grid.specs.declared.grid.Grid.{Grid}

-- a block into which an array can be written meets no merged cells
pub unmet : (meets : Bool) (rest : Answer) → refused_by meets errors.MergedPart rest ≡ Ok tt → meets ≡ false
unmet true rest e = cc
unmet false rest e = refl

blank_style : (t : Bool) (b : Block) (f s : ℕ) → style_of (cond t (celled.array f s b.width b.height kinds.Cse) (celled.spill s (first_place b) (spills.Text []))) ≡ s
blank_style true b f s = refl
blank_style false b f s = refl

module _ (grid : Grid) (b : Block) (f : ℕ) (styles : List Style) (whole : IsGrid grid) (area : is_area b ≡ true) (some : 0 < length styles) (styled : IsStyled styles grid) where
  abbrev m : Contents Cell
  m = loosened_in celled b grid.cells

  pub items_count : (items : List Cell) → items ≡ (all_blank grid b f styles).0 → length items ≡ place_count b
  items_count items e = ap length e ∙ blank_length grid b f (place_count b) (first_place b) styles

  pub put_there : (items : List Cell) → items ≡ (all_blank grid b f styles).0 → (after : Contents Cell) → after ≡ placed b (first_place b) items (loosened_in celled b grid.cells) → after ≡ placed b (first_place b) (all_blank grid b f styles).0 (loosened_in celled b grid.cells)
  put_there items e after is = is ∙ ap (λ xs. placed b (first_place b) xs (loosened_in celled b grid.cells)) e

  module _ (after : Contents Cell) (is : after ≡ placed b (first_place b) (all_blank grid b f styles).0 (loosened_in celled b grid.cells)) where
    abbrev Found : Place → Type 0
    Found p = (s : ℕ) × (finite.get after p ≡ Some (blank_cell b f s p)) × (s < length (all_blank grid b f styles).1)

    found : (p : Place) → is_in_block b p ≡ true → Found p
    found p within =
        let one = blank_at grid b f (place_count b) (first_place b) (at_first b area) styles some styled m p (first_left b p ∙ within) in
        (one.0, ap (λ (c : Contents Cell). finite.get c p) is ∙ one.1, one.2)

    away : (p : Place) → is_in_block b p ≡ false → finite.get after p ≡ finite.get (loosened_in celled b grid.cells) p
    away p out =
        ap (λ (c : Contents Cell). finite.get c p) is
        ∙ placed_away b (all_blank grid b f styles).0 (first_place b) (subst (λ n. IsAt b (first_place b) n) (sym (items_count _ refl)) (at_first b area)) m p (first_left b p ∙ out)

    now : Has celled after (first_place b) (Anchor b.width b.height kinds.Cse)
    now =
        let one = found (first_place b) (first_in (first_place b) b.width b.height area) in
        (blank_cell b f one.0 (first_place b), one.1, ap (λ t. shape_of (cond t (celled.array f one.0 b.width b.height kinds.Cse) (celled.spill one.0 (first_place b) (spills.Text [])))) (same_itself (first_place b)))

    rest : (p : Place) → is_in_block b p ≡ true → same_place p (first_place b) ≡ false → Has celled after p (SpillOf (first_place b))
    rest p within other =
        let one = found p within in
        (blank_cell b f one.0 p, one.1, ap (λ t. shape_of (cond t (celled.array f one.0 b.width b.height kinds.Cse) (celled.spill one.0 (first_place b) (spills.Text [])))) other)

    pub is_written : (record grid { cells = after } ≡ (with_array grid b f styles).0)
    is_written = ap (λ (c : Contents Cell). let g : Grid = record grid { cells = c } in g) (is ∙ sym (ap (λ (p : Contents Cell × List Style). p.0) (written_placed grid b f area styles)))

    pub written_whole : meets_merge grid.merged_cells b ≡ false → IsGrid (record grid { cells = after })
    written_whole apart = record {
      inside = placed_inside m after b kinds.Cse area arrays (loose_within grid.cells b whole.arrays) now rest away inside;
      arrays = placed_arrays m after b kinds.Cse area arrays (loose_within grid.cells b whole.arrays) now rest away;
      merges =
          placed_merges m after b kinds.Cse area arrays (loose_within grid.cells b whole.arrays) now rest away grid.merged_cells (λ many. apart)
          (loosened_merges celled grid.cells m (reached grid.cells b) (loosened_loosens grid.cells b) grid.merged_cells whole.merges);
    }
      where
        inside : AreInSheet celled m
        inside = loosened_inside grid.cells b whole.inside

        arrays : AreArrays celled m
        arrays = loosened_arrays celled grid.cells m (reached grid.cells b) (loosened_loosens grid.cells b) whole.arrays inside

    pub written_styled : (grown : List Style) → grown ≡ (all_blank grid b f styles).1 → IsStyled grown (record grid { cells = after })
    written_styled grown e = subst (λ (l : List Style). IsStyled l (record grid { cells = after })) (sym e) (record { contents = below; rows = still.rows; columns = still.columns })
      where
        still : IsStyled (all_blank grid b f styles).1 grid
        still = styled_more grid styles styled (all_blank grid b f styles).1 (blank_more grid b f (place_count b) (first_place b) styles)

        below : (p : Place) (x : Cell) → finite.get after p ≡ Some x → style_of x < length (all_blank grid b f styles).1
        below p x e = by_side (is_in_block b p) here elsewhere
          where
            here : is_in_block b p ≡ true → style_of x < length (all_blank grid b f styles).1
            here within =
                let one = found p within in
                let some_of : Some x ≡ Some (blank_cell b f one.0 p) = sym e ∙ one.1 in
                let same : x ≡ blank_cell b f one.0 p = cc in
                subst (λ n. n < length (all_blank grid b f styles).1) (sym (ap style_of same ∙ blank_style (same_place p (first_place b)) b f one.0)) one.2

            of_old : (o : Option Cell) → finite.get grid.cells p ≡ o → Some (style_of x) ≡ option_map style_of o → style_of x < length (all_blank grid b f styles).1
            of_old None was g = cc
            of_old (Some y) was g =
                let same : style_of x ≡ style_of y = cc in
                subst (λ n. n < length (all_blank grid b f styles).1) (sym same) (still.contents p y was)

            elsewhere : is_in_block b p ≡ false → style_of x < length (all_blank grid b f styles).1
            elsewhere out =
                of_old (finite.get grid.cells p) refl (ap (option_map style_of) (sym e ∙ away p out) ∙ loosened_styles grid.cells b p)

  pub styles_are : (grown : List Style) → grown ≡ (all_blank grid b f styles).1 → grown ≡ (with_array grid b f styles).1
  styles_are grown e = e ∙ sym (ap (λ (p : Contents Cell × List Style). p.1) (written_placed grid b f area styles))
