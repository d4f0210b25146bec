-- The commands on arrays, spills and clearing keep what always holds of a book.
use Rattle.std.proofs.Common.{◌≡◌, refl, ℕ, ◌<◌, List, [], length, Bool, true, false, Option, Some, None, Ok, Err}
use Rattle.std.proofs.lemmas.Bool.{not-false}
use Rattle.std.proofs.lemmas.Option.{slice_get_within}
use Rattle.std.specs.List.{slice_get}
use Rattle.ic_laws.specs.FormulaReading.{without_equals}
use Rattle.ic_laws.specs.Notations.{Notations}
use Rattle.ic_laws.specs.declared.scene.Scene.{Scene}
use Rattle.ic_cells.specs.Style.{default_style}
use Rattle.ic_cells.specs.declared.value.FormulaValue.{FormulaValue}
use Rattle.ic_cells.specs.declared.value.SpillValue.{SpillValue}
use Rattle.ic_grid.specs.Block.{Place, first_place, is_area}
use Rattle.ic_grid.specs.Clear.{cleared}
use Rattle.ic_grid.specs.Contents.{Contents}
use Rattle.ic_grid.specs.Spill.{first_blocking, spilled}
use Rattle.ic_grid.specs.Value.{valued}
use Rattle.ic_grid.specs.declared.block.Block.{Block}
use Rattle.ic_machine.specs.Book.{Book, Grid, Sheet, Stepped, notations_in, on_grid, put_in, scene_in, unless, with_sheet}
use Rattle.ic_machine.specs.Content.{Content, formula_index, held}
use Rattle.ic_machine.specs.Kept.{StaysValid}
use Rattle.ic_machine.specs.Refusal.{Refusal, first_refusal}
use Rattle.ic_machine.specs.Reply.{Field}
use Rattle.ic_machine.specs.Valid.{HasFormula, IsValidBook}
use Rattle.ic_machine.specs.subjects.Arrays as arrays
use Rattle.ic_machine.specs.subjects.Arrays.{Arrays, array_causes, array_step, arrays_step, clear_step, put_spill_step, put_value_step, spill_causes, with_array, with_grid_contents}
use Rattle.ic_machine.specs.subjects.Writing.{formula_at_place}
use Rattle.ic_machine.proofs.valid.ArrayStays.{array_is_written}
use Rattle.ic_machine.proofs.contents.HaveLemmas.{AllHave, IsOfSpills, all_cleared, all_spilled, all_valued}
use Rattle.ic_machine.proofs.valid.InsertedStays.{none_holds}
use Rattle.ic_machine.proofs.valid.StandingLemmas.{IsStanding, passed_on}
use Rattle.ic_machine.proofs.valid.ValidLemmas.{HoldsOf, holds_at, same_styles, stays_found, stays_unless}
use Rattle.ic_machine.proofs.contents.WholeLemmas.{IsWhole, cleared_is, none_blocks, spilled_is, valued_is}
use Rattle.ic_machine.proofs.valid.WritingSteps.{number_below, text_good}

-- a sheet with other contents ----

module _ (n : Notations) (scene : Scene) (s : Sheet) (count : ℕ) where
  -- what a step on its grid has to leave
  abbrev pub GridHolds : Stepped Grid → Type 0
  GridHolds (Ok done) = HoldsOf n scene count (record s { grid = done.0 })
  GridHolds (Err refusal) = Unit {0}

  module _ (h : HoldsOf n scene count s) where
    pub all_stand : AllHave held (IsStanding n scene s count) s.grid.contents
    all_stand q x e = (h.styles.contents q x e, h.formulas q x e, h.amounts q x e)

    of_spills : 0 < count → IsOfSpills held (IsStanding n scene s count) s.grid.rows s.grid.columns
    of_spills some m stand q a value =
        (number_below count (record s.grid { contents = m }) q (record { contents = λ p x e. (stand p x e).0; rows = h.styles.rows; columns = h.styles.columns }) some, tt, tt)

    pub is_whole : IsWhole s.grid.merges s.grid.contents
    is_whole = record { inside = h.inside; arrays = h.arrays; apart = h.merges }

    same_formula : (m : Contents Content) (q : Place) (o : Option ℕ) → HasFormula n scene s q o → HasFormula n scene (record s { grid = with_grid_contents s.grid m }) q o
    same_formula m q None f = tt
    same_formula m q (Some index) f = f

    with_other : (m : Contents Content) → IsWhole s.grid.merges m → AllHave held (IsStanding n scene s count) m → HoldsOf n scene count (record s { grid = with_grid_contents s.grid m })
    with_other m w stand = record {
      pool = h.pool;
      inside = w.inside;
      formulas = λ q x e. same_formula m q (formula_index x) (stand q x e).1;
      styles = record { contents = λ q x e. (stand q x e).0; rows = h.styles.rows; columns = h.styles.columns };
      arrays = w.arrays;
      merges = w.apart;
      layout = record { frozen = h.layout.frozen; lines = record { rows = h.layout.lines.rows; columns = h.layout.lines.columns } };
      amounts = λ q x e. (stand q x e).2;
    }

    holds_unless : (o : Option Refusal) (left : Grid) (fields : List Field) → (o ≡ None → HoldsOf n scene count (record s { grid = left })) → GridHolds (unless o left fields)
    holds_unless None left fields f = f refl
    holds_unless (Some refusal) left fields f = tt

    clear_holds : (all : Bool) (b : Block) → GridHolds (clear_step all b s.grid)
    unfolding clear_step
    clear_holds all b =
        holds_unless _ (with_grid_contents s.grid (cleared held b all s.grid.contents)) []
        (λ e. with_other (cleared held b all s.grid.contents) (cleared_is s.grid.rows s.grid.columns s.grid.merges s.grid.contents is_whole b all)
        (all_cleared held (IsStanding n scene s count) (passed_on n scene s count) b all s.grid.contents all_stand))

    value_holds : (p : Place) (value : FormulaValue) → GridHolds (put_value_step p value s.grid)
    unfolding put_value_step
    value_holds p value =
        holds_unless _ (with_grid_contents s.grid (valued held p value s.grid.contents)) []
        (λ e. with_other (valued held p value s.grid.contents) (valued_is s.grid.rows s.grid.columns s.grid.merges s.grid.contents is_whole p value)
        (all_valued held (IsStanding n scene s count) (passed_on n scene s count) p value s.grid.contents all_stand))

    spill_holds : 0 < count → (b : Block) (values : List SpillValue) → GridHolds (put_spill_step b values s.grid)
    unfolding put_spill_step
    spill_holds some b values =
        holds_unless _ (with_grid_contents s.grid (spilled held s.grid.rows s.grid.columns b values s.grid.contents)) []
        (λ e.
        let clear = none_holds (spill_causes s.grid b (length values)) e in
        with_other (spilled held s.grid.rows s.grid.columns b values s.grid.contents)
        (spilled_is s.grid.rows s.grid.columns s.grid.merges s.grid.contents is_whole b values clear.0 clear.1.0 (none_blocks (first_blocking held s.grid.merges s.grid.contents b (length values)) clear.1.1))
        (all_spilled held (IsStanding n scene s count) (passed_on n scene s count) s.grid.rows s.grid.columns (of_spills some) b values s.grid.contents all_stand))

module _ (b : Book) (valid : IsValidBook b) where
  abbrev Leaves : Sheet → Stepped Grid → Type 0
  Leaves s stepped = GridHolds (notations_in b) (scene_in b) s (length b.styles) stepped

  grid_put : (index : ℕ) (s : Sheet) → slice_get b.sheets index ≡ Some s → (stepped : Stepped Grid) → Leaves s stepped
      → StaysValid (put_in (with_sheet b index) (put_in (λ (grid : Grid). let new : Sheet = record s { grid = grid } in new) stepped))
  grid_put index s e (Err refusal) h = tt
  grid_put index s e (Ok done) h = same_styles b valid index s (record s { grid = done.0 }) e refl refl h

  on_grids : (index : ℕ) (f : Grid → Stepped Grid) → ((s : Sheet) → HoldsOf (notations_in b) (scene_in b) (length b.styles) s → Leaves s (f s.grid)) → StaysValid (on_grid b index f)
  unfolding on_grid
  on_grids index f h = stays_found b valid index _ (λ s e. grid_put index s e (f s.grid) (h s (holds_at b valid index s e)))

  some_style : 0 < length b.styles
  some_style = slice_get_within b.styles 0 default_style valid.styles.styles.default

  array_stays : (index : ℕ) (block : Block) (text : List ℕ) → StaysValid (array_step index block text b)
  unfolding array_step
  array_stays index block text =
      stays_found b valid index _
      (λ s e. stays_unless (first_refusal (array_causes s block text)) (with_array b index s block (formula_at_place b s (first_place block) (without_equals text))) []
      (λ g.
      let clear = none_holds (array_causes s block text) g in
      array_is_written b valid index s e block (formula_at_place b s (first_place block) (without_equals text)) (text_good b valid index s e (first_place block) (without_equals text)) (not-false (is_area block) clear.0) clear.1.0))

  pub arrays_stay : (command : Arrays) → StaysValid (arrays_step b command)
  arrays_stay (arrays.SetUserArrayFormula sheet block text) = array_stays sheet block text
  arrays_stay (arrays.RangeClearContents sheet block) = on_grids sheet (clear_step false block) (λ s h. clear_holds (notations_in b) (scene_in b) s (length b.styles) h false block)
  arrays_stay (arrays.RangeClearAll sheet block) = on_grids sheet (clear_step true block) (λ s h. clear_holds (notations_in b) (scene_in b) s (length b.styles) h true block)
  arrays_stay (arrays.PutFormulaValue sheet place value) = on_grids sheet (put_value_step place value) (λ s h. value_holds (notations_in b) (scene_in b) s (length b.styles) h place value)
  arrays_stay (arrays.PutSpill sheet block values) = on_grids sheet (put_spill_step block values) (λ s h. spill_holds (notations_in b) (scene_in b) s (length b.styles) h some_style block values)
