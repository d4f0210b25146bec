-- An array formula that is written into a block: what a model holds after it.
use Rattle.std.proofs.Common.{◌≡◌, ℕ, ◌<◌, List, true, map, length, Some, None, option_map, refl, sym, ap, ap₂, subst, ◌∙◌, IfSome}
use Rattle.std.specs.List.{slice_get}
use Rattle.std.proofs.lemmas.List.{length-map}
use Rattle.std.proofs.lemmas.Option.{slice_get-map, slice_get_within}
use Rattle.ic_laws.proofs.core.Lists.{updated_seen}
use Rattle.ic_laws.specs.CoreStep.{updated_at}
use Rattle.ic_laws.specs.declared.tree.Formula.{Formula}
use Rattle.ic_cells.specs.declared.style.Style.{Style}
use Rattle.ic_grid.specs.Arrays.{has_fixed}
use Rattle.ic_grid.specs.Block.{first_place, is_area}
use Rattle.ic_grid.specs.Merges.{meets_merge}
use Rattle.ic_grid.specs.Shape.{celled}
use Rattle.ic_grid.specs.Whole.{IsStyled}
use Rattle.ic_grid.specs.Written as grids
use Rattle.ic_grid.specs.declared.block.Block.{Block}
use Rattle.ic_grid.specs.declared.grid.Grid.{Grid}
use Rattle.ic_machine.specs.Refusal.{first_refusal}
use Rattle.ic_pool.specs.Pool.{IsPlaced}
use Rattle.ic_sheets.specs.Rewriting.{sheets_of}
use Rattle.ic_sheets.specs.Sheet.{Sheet, TakesArray, WritesArrayAt, sheet_of}
use Rattle.ic_sheets.specs.declared.sheet.Sheet.{Sheet as HeldSheet}
use Rattle.ic_parts.specs.Arrays.{WritesArray, after_equals, array_causes, array_refusal, array_refusal_in}
use Rattle.ic_parts.specs.Book.{Book}
use Rattle.ic_book.specs.Inside.{IsHeld, held as held_book, with_sheets, with_styles}
use Rattle.ic_parts.specs.Written.{written_formula}
use Rattle.ic_book.specs.declared.model.Model.TheInside.{Inside}
use Rattle.ic_parts.proofs.ArrayLemmas.{each_there}
use Rattle.ic_parts.proofs.GridLemmas.{its_grid, its_styles}
use Rattle.ic_parts.proofs.HeldLemmas.{whole_updated}
use Rattle.ic_parts.proofs.ArrayWritten.{all_clear}
use Rattle.ic_parts.proofs.ArrayWritten.{sheet_found}
use Rattle.ic_parts.proofs.ArrayWritten.{body_is}
use Rattle.ic_parts.proofs.ArrayWritten.{array_valid}

-- What a model holds. ----

module _ (inside : Inside) (h : IsHeld inside) (index : ℕ) (b : Block) (none : array_refusal (held_book inside) index b ≡ None) where
  abbrev its_book : Book
  its_book = held_book inside

  abbrev ws : List HeldSheet
  ws = inside.contents.sheets

  pub array_within : index < length ws
  array_within =
      let found = sheet_found b (slice_get its_book.sheets index) none in
      subst (λ k. index < k) (length-map ws sheet_of) (slice_get_within its_book.sheets index found.0 found.1)

  in_book : (s : HeldSheet) → slice_get ws index ≡ Some s → slice_get its_book.sheets index ≡ Some (sheet_of s)
  in_book s at = slice_get-map sheet_of ws index ∙ ap (option_map sheet_of) at

  its_clear : (s : HeldSheet) → slice_get ws index ≡ Some s → first_refusal (array_causes s.grid b) ≡ None
  its_clear s at = sym (ap (array_refusal_in b) (in_book s at)) ∙ none

  takes_at : (s : HeldSheet) → slice_get ws index ≡ Some s → TakesArray b s.grid
  takes_at s at =
      let clear = all_clear (is_area b) (meets_merge s.grid.merged_cells b) (has_fixed celled s.grid.cells b) (its_clear s at) in
      record { whole = its_grid its_book h index (sheet_of s) (in_book s at); area = clear.0; free = clear.1 }

  pub array_takes : IfSome (slice_get ws index) (λ (s : HeldSheet). TakesArray b s.grid)
  array_takes = each_there ws index (λ (s : HeldSheet). TakesArray b s.grid) takes_at

  pub array_styled : IfSome (slice_get ws index) (λ (s : HeldSheet). IsStyled inside.lists.styles s.grid)
  array_styled = each_there ws index (λ (s : HeldSheet). IsStyled inside.lists.styles s.grid) (λ s at. its_styles its_book h index (sheet_of s) (in_book s at))

  -- the sheet that was found there has the formula
  pub formula_there : (found s : HeldSheet) (body : List ℕ) → slice_get its_book.sheets index ≡ Some (sheet_of found) → slice_get ws index ≡ Some s
      → written_formula its_book (sheet_of found) (first_place b) body ≡ written_formula its_book (sheet_of s) (first_place b) body
  formula_there found s body e at =
      let both : Some (sheet_of found) ≡ Some (sheet_of s) = sym e ∙ in_book s at in
      let same : sheet_of found ≡ sheet_of s = cc in
      ap (λ (s : Sheet). written_formula its_book s (first_place b) body) same

  module _ (body : List ℕ) (formula : Formula) (now : List HeldSheet) (left : List Style) (w : WritesArrayAt formula b inside.lists.styles left index ws now) (is : formula ≡ written_formula its_book (sheet_of w.0) (first_place b) body) where
    there : slice_get its_book.sheets index ≡ Some (sheet_of w.0)
    there = in_book w.0 w.3

    abbrev new_book : Book
    new_book = held_book (with_styles left (with_sheets now inside))

    writes_array : WritesArray index (sheet_of w.0) b body its_book new_book
    writes_array =
        let cells : Grid = (grids.with_array w.0.grid b w.2 inside.lists.styles).0 in
        record {
          pool = w.1;
          at = w.2;
          placed = subst (λ f. IsPlaced f w.2 w.0.pool.formulas w.1) is w.4;
          is =
              ap₂ (λ (ss : List Sheet) (st : List Style). let book : Book = record its_book { sheets = ss; styles = st } in book)
              (ap sheets_of w.5
              ∙ updated_seen sheet_of (λ s. record s { pool = record { formulas = w.1; is_whole = true }; grid = cells }) (λ s. record s { pool = w.1; grid = cells }) (λ s. refl) index ws)
              w.6;
        }

    pub array_there : IfSome (slice_get its_book.sheets index) (λ s. WritesArray index s b body its_book new_book)
    array_there = subst (λ o. IfSome o (λ s. WritesArray index s b body its_book new_book)) (sym there) writes_array

    pub array_looks_up : map (λ (s : HeldSheet). s.pool.is_whole) now ≡ updated_at (λ b. true) index (map (λ (s : HeldSheet). s.pool.is_whole) ws)
    array_looks_up = ap (map (λ (s : HeldSheet). s.pool.is_whole)) w.5 ∙ whole_updated _ (λ s. refl) index ws

    pub array_held : (text : List ℕ) → after_equals text ≡ Some body → IsHeld (with_styles left (with_sheets now inside))
    array_held text typed =
        let parts = body_is text body typed in
        array_valid its_book h index b text (sheet_of w.0) there (its_clear w.0 w.3) parts.0 new_book (subst (λ body. WritesArray index (sheet_of w.0) b body its_book new_book) (sym parts.1) writes_array)
