-- Clearing, values of formulas and spills on the cells of a sheet: how the whole machine sees them, and what they leave.
use Rattle.std.proofs.Common.{◌≡◌, ℕ, ℤ, List, [], ◌∷◌, map, length, Bool, true, false, not, ◌&&◌, ◌||◌, inl, inr, Option, Some, None, IfSome, Result, Ok, Err, refl, sym, ap, ap₂, subst, ◌∙◌}
use Rattle.std.specs.FinMap as finite
use Rattle.std.specs.List.{list_any, slice_get}
use Rattle.ic_laws.proofs.core.Lists.{all_updated}
use Rattle.ic_cells.specs.declared.cell.Cell.{Cell}
use Rattle.ic_cells.specs.declared.cell.Cell.TheVariants as cells
use Rattle.ic_cells.specs.declared.value.FormulaValue.{FormulaValue}
use Rattle.ic_cells.specs.declared.value.SpillValue.{SpillValue}
use Rattle.ic_grid.proofs.ContentsLemmas.{same_contents}
use Rattle.ic_grid.specs.Arrays.{array_at, has_cut, has_in, is_cut_by}
use Rattle.ic_grid.specs.Block.{Place, first_place, is_area, is_in_block}
use Rattle.ic_grid.specs.Calls.{Answer, IsRefusal, blocked_by, can_clear, can_spill, can_write_value, refused_by}
use Rattle.ic_grid.specs.Clear.{cleared}
use Rattle.ic_grid.specs.Contents.{Contents}
use Rattle.ic_grid.specs.Shape.{Shape, celled, is_anchor, is_formula, with_cell_area, with_cell_value}
use Rattle.ic_grid.specs.Spill.{first_blocking, misfits, spilled}
use Rattle.ic_grid.specs.Value.{shape_at, valued}
use Rattle.ic_grid.specs.declared.block.Array.{Array}
use Rattle.ic_grid.specs.declared.block.Block.{Block}
use Rattle.ic_grid.specs.declared.error.GridError.{GridError}
use Rattle.ic_grid.specs.declared.error.GridError.TheVariants as grid_errors
use Rattle.ic_grid.specs.declared.grid.Grid.{Grid}
use Rattle.ic_machine.proofs.contents.AlikeGrid.{array_at-seen, entries-seen, get-seen}
use Rattle.ic_machine.proofs.contents.AlikeLemmas.{cells_are_contents}
use Rattle.ic_machine.proofs.valid.ArraysStay.{arrays_stay}
use Rattle.ic_machine.proofs.contents.HaveLemmas.{IsPassedOn, all_cleared, all_spilled, all_valued}
use Rattle.ic_machine.proofs.contents.SeenLemmas.{IsSeen, blocking_same, cleared_seen, shape_same, spilled_seen, valued_seen}
use Rattle.ic_machine.specs.Alike.{seen_by}
use Rattle.ic_machine.specs.Book as machine
use Rattle.ic_machine.specs.Book.{Stepped, on_grid, put_in, unless, with_sheet}
use Rattle.ic_machine.specs.Content.{Content, content_of, held}
use Rattle.ic_machine.specs.Kept.{StaysValid}
use Rattle.ic_machine.specs.Refusal.{BadArea, ClearArray, NoFormulaCell, Refusal, first_refusal}
use Rattle.ic_machine.specs.Valid as valid_machine
use Rattle.ic_machine.specs.subjects.Arrays as arrays
use Rattle.ic_machine.specs.subjects.Arrays.{blocked_causes, clear_step, put_spill_step, put_value_step, with_grid_contents}
use Rattle.ic_sheets.specs.Sheet.{Sheet}
use Rattle.ic_parts.specs.Book.{Book, HasString, HasStrings, IsValidBook, whole_grid}
use Rattle.ic_parts.specs.Does.{DoesGrid, IsDone, PartRefused}
use Rattle.ic_parts.specs.Fields.{no_fields}
use Rattle.ic_parts.specs.Parts.{StaysHeld, with_grid}
use Rattle.ic_parts.specs.Refused.{of_grid, refusal_of}
use Rattle.ic_parts.specs.Whole.{whole_of, whole_sheet}
use Rattle.ic_parts.specs.declared.error.BookError.{BookError}
use Rattle.ic_parts.specs.declared.error.BookError.TheVariants as errors
use Rattle.ic_parts.proofs.GridPartLemmas.{whole_with_grid}
use Rattle.ic_parts.proofs.PartLemmas.{found, updated_same}
use Rattle.ic_parts.proofs.WrittenLemmas.{one_of_all}

-- How the machine sees the cells. ----

module _ (strings : List (List ℕ)) (m : Contents Cell) where
  abbrev seen : Contents Content
  seen = seen_by (content_of strings) m

  pub is_seen : IsSeen (content_of strings) m (seen_by (content_of strings) m)
  is_seen q = get-seen (content_of strings) m q

  pub seen_is : (after : Contents Cell) (c : Contents Content) → IsSeen (content_of strings) after c → c ≡ seen_by (content_of strings) after
  seen_is after c s = same_contents c (seen_by (content_of strings) after) (λ q. s q ∙ sym (get-seen (content_of strings) after q))

  -- places that hold something
  keys_read : (es : List (Place × Cell)) → map (λ (e : Place × Content). e.0) (map (λ (e : Place × Cell). let read : Place × Content = (e.0, content_of strings e.1) in read) es) ≡ map (λ (e : Place × Cell). e.0) es
  keys_read [] = refl
  keys_read (e ∷ es) = ap (λ (rest : List Place). e.0 ∷ rest) (keys_read es)

  keys_seen : finite.keys seen ≡ finite.keys m
  keys_seen = ap (map (λ (e : Place × Content). e.0)) (entries-seen (content_of strings) m) ∙ keys_read (finite.entries m)

  any_same : (one other : Place → Bool) → ((p : Place) → one p ≡ other p) → (ps : List Place) → list_any one ps ≡ list_any other ps
  any_same one other same [] = refl
  any_same one other same (p ∷ ps) = ap₂ (λ (a b : Bool). a || b) (same p) (any_same one other same ps)

  pub has_in_seen : (b : Block) (test : Option Array → Bool) → has_in held (seen_by (content_of strings) m) b test ≡ has_in celled m b test
  has_in_seen b test =
      ap (list_any (λ p. is_in_block b p && test (array_at held seen p))) keys_seen
      ∙ any_same (λ p. is_in_block b p && test (array_at held seen p)) (λ p. is_in_block b p && test (array_at celled m p))
      (λ p. ap (λ o. is_in_block b p && test o) (array_at-seen (content_of strings) celled held (cells_are_contents strings) m p)) (finite.keys m)

  shape_seen : (p : Place) → shape_at held (seen_by (content_of strings) m) p ≡ shape_at celled m p
  shape_seen p = shape_same (content_of strings) celled held (cells_are_contents strings) m seen is_seen p

-- Why a call on the cells was refused, and the step of the machine. ----

-- the refusal that an answer tells
abbrev answer_told : Answer → Option Refusal
answer_told (Ok done) = None
answer_told (Err e) = refusal_of (of_grid e)

module _ {G : Type 0} (made : Stepped G) (left : G) where
  by_told : (o : Option Refusal) → made ≡ unless o left [] → PartRefused true made o
  by_told None is = (refl, subst IsDone (sym is) tt)
  by_told (Some refusal) is = is

  -- a call that may want memory
  part_told : (answer : Answer) → made ≡ unless (answer_told answer) left [] → (e : GridError) → IsRefusal answer e → PartRefused true made (refusal_of (of_grid e))
  part_told answer is e (inl told) = by_told (refusal_of (of_grid e)) (is ∙ ap (λ a. unless (answer_told a) left []) told)
  part_told answer is e (inr out) =
      subst (λ (e : GridError). PartRefused true made (refusal_of (of_grid e))) (sym out.1) (refl, subst IsDone (sym (is ∙ ap (λ a. unless (answer_told a) left []) out.0)) tt)

-- What is left holds. ----

module _ (count : ℕ) where
  abbrev HasText : Place → Cell → Type 0
  HasText q x = HasString count x

  valued_has : (q : Place) (x : Cell) (value : FormulaValue) → HasText q x → HasText q (with_cell_value value x)
  valued_has q (cells.EmptyCell s) value h = tt
  valued_has q (cells.BooleanCell v s) value h = tt
  valued_has q (cells.NumberCell v s) value h = h
  valued_has q (cells.ErrorCell e s) value h = tt
  valued_has q (cells.SharedString i s) value h = h
  valued_has q (cells.CellFormula f s v) value h = tt
  valued_has q (cells.ArrayFormula kind f s r v) value h = tt
  valued_has q (cells.SpillCell s a v) value h = tt

  widened_has : (q : Place) (x : Cell) (width height : ℤ) → HasText q x → HasText q (with_cell_area width height x)
  widened_has q (cells.EmptyCell s) width height h = tt
  widened_has q (cells.BooleanCell v s) width height h = tt
  widened_has q (cells.NumberCell v s) width height h = h
  widened_has q (cells.ErrorCell e s) width height h = tt
  widened_has q (cells.SharedString i s) width height h = h
  widened_has q (cells.CellFormula f s v) width height h = tt
  widened_has q (cells.ArrayFormula kind f s r v) width height h = tt
  widened_has q (cells.SpillCell s a v) width height h = tt

  pub texts_passed : IsPassedOn celled HasText
  texts_passed = record { to_empty = λ q x h. tt; to_valued = valued_has; to_widened = widened_has; to_spill = λ q x a value h. tt }

-- a change that leaves the machine's book valid and texts among the shared strings leaves the book valid
module _ (memory : Bool) (step : machine.Grid → Stepped machine.Grid) (keeps : (b : machine.Book) (index : ℕ) → valid_machine.IsValidBook b → StaysValid (on_grid b index step)) (before after : Grid)
    (texts : (count : ℕ) → HasStrings count before → HasStrings count after)
  where
    module _ (book : Book) (index : ℕ) (sheet : Sheet) (at : slice_get book.sheets index ≡ Some sheet) (its : sheet.grid ≡ before) (valid : IsValidBook book) where
      held_so : (r : Result (Unit {0}) BookError) → DoesGrid memory step no_fields r before after → IsValidBook (with_grid index after book)
      unfolding on_grid
      held_so (Ok done) does =
          let put : machine.Grid → machine.Sheet = λ grid. record (whole_sheet book.strings sheet) { grid = grid } in
          let made : step (whole_grid book.strings sheet.grid) ≡ Ok (whole_grid book.strings after, []) = ap (λ (g : Grid). step (whole_grid book.strings g)) its ∙ does.done book.strings in
          let stepped : on_grid (whole_of book) index step ≡ Ok (whole_of (with_grid index after book), []) =
          found book index (λ s. put_in (λ grid. record s { grid = grid }) (step s.grid)) sheet at
          ∙ ap (λ made. put_in (with_sheet (whole_of book) index) (put_in put made)) made
          ∙ ap (λ (b : machine.Book). let made : Stepped machine.Book = Ok (b, []) in made) (sym (whole_with_grid index after book valid sheet at)) in
          let old : HasStrings (length book.strings) sheet.grid = one_of_all (λ (s : Sheet). HasStrings (length book.strings) s.grid) index book.sheets sheet at valid.strings in
          let its_texts : HasStrings (length book.strings) after = texts (length book.strings) (subst (HasStrings (length book.strings)) its old) in
          record {
            whole = subst StaysValid stepped (keeps (whole_of book) index valid.whole);
            strings = all_updated (λ (s : Sheet). HasStrings (length book.strings) s.grid) (λ s. record s { grid = after }) (λ s h. its_texts) index book.sheets valid.strings;
          }
      held_so (Err e) does =
          let same : after ≡ sheet.grid = (does.done []).1 ∙ sym its in
          subst IsValidBook
          (sym
          (ap (λ (g : Grid). with_grid index g book) same
          ∙ ap (λ (sheets : List Sheet). let b : Book = record book { sheets = sheets } in b) (updated_same (λ s. record s { grid = sheet.grid }) index book.sheets sheet at refl)))
          valid

    stays_held : (r : Result (Unit {0}) BookError) → DoesGrid memory step no_fields r before after → StaysHeld before after
    stays_held r does = record { valid = λ book index sheet at its valid. held_so book index sheet at its valid r does }

-- what holds of the item at an index, if there is one
pub each_there : {X : Type 0} (xs : List X) (index : ℕ) (P : X → Type 0) → ((x : X) → slice_get xs index ≡ Some x → P x) → IfSome (slice_get xs index) P
each_there {X} xs index P each = of_found (slice_get xs index) refl
  where
    of_found : (o : Option X) → slice_get xs index ≡ o → IfSome o P
    of_found None e = tt
    of_found (Some x) e = each x e

-- Clearing. ----

module _ (grid : Grid) (all : Bool) (b : Block) where
  abbrev pub cells_cleared : Grid
  cells_cleared = record grid { cells = cleared celled b all grid.cells }

  cut_told : (cut : Bool) → first_refusal ((cut, ClearArray) ∷ []) ≡ answer_told (refused_by cut grid_errors.ClearArray (Ok tt))
  cut_told true = refl
  cut_told false = refl

  clear_is : is_area b ≡ true → (strings : List (List ℕ)) → clear_step all b (whole_grid strings grid) ≡ unless (answer_told (can_clear celled grid.cells b)) (whole_grid strings cells_cleared) []
  unfolding clear_step
  clear_is area strings =
      ap (λ (inside : Bool). let g = whole_grid strings grid in unless (first_refusal ((not inside, BadArea) ∷ (has_cut held g.contents b, ClearArray) ∷ [])) (with_grid_contents g (cleared held b all g.contents)) []) area
      ∙ ap₂ (λ (cut : Bool) (m : Contents Content). unless (first_refusal ((cut, ClearArray) ∷ [])) (with_grid_contents (whole_grid strings grid) m) []) (has_in_seen strings grid.cells b (is_cut_by b))
      (seen_is strings grid.cells (cleared celled b all grid.cells) _ (cleared_seen (content_of strings) celled held (cells_are_contents strings) grid.cells (seen_by (content_of strings) grid.cells) (is_seen strings grid.cells) b all))
      ∙ ap (λ o. unless o (whole_grid strings cells_cleared) []) (cut_told (has_cut celled grid.cells b))

  pub clear_outside : is_area b ≡ false → DoesGrid false (clear_step all b) no_fields (Err errors.BadArea) grid grid
  unfolding clear_step
  clear_outside area = record {
    done = λ strings. (
      ap (λ (inside : Bool). let g = whole_grid strings grid in unless (first_refusal ((not inside, BadArea) ∷ (has_cut held g.contents b, ClearArray) ∷ [])) (with_grid_contents g (cleared held b all g.contents)) []) area,
      refl,
    );
  }

  pub clear_done : is_area b ≡ true → can_clear celled grid.cells b ≡ Ok tt → (after : Grid) → after ≡ cells_cleared → DoesGrid false (clear_step all b) no_fields (Ok tt) grid after
  clear_done area may after is = record {
    done = λ strings.
        clear_is area strings ∙ ap (λ a. unless (answer_told a) (whole_grid strings cells_cleared) []) may
        ∙ ap (λ (g : Grid). let made : Stepped machine.Grid = Ok (whole_grid strings g, []) in made) (sym is);
  }

  only_cut : (cut : Bool) (e : GridError) → refused_by cut grid_errors.ClearArray (Ok tt) ≡ Err e → e ≡ grid_errors.ClearArray
  only_cut true e is = cc
  only_cut false e is = cc

  pub clear_refused : is_area b ≡ true → (e : GridError) → can_clear celled grid.cells b ≡ Err e → (after : Grid) → after ≡ grid → (f : BookError) → f ≡ of_grid e → DoesGrid false (clear_step all b) no_fields (Err f) grid after
  clear_refused area e may after same f told =
      let cut : e ≡ grid_errors.ClearArray = only_cut (has_cut celled grid.cells b) e may in
      record {
        done = λ strings. (
          subst (λ (f : BookError). PartRefused false (clear_step all b (whole_grid strings grid)) (refusal_of f)) (sym (told ∙ ap of_grid cut))
              (clear_is area strings ∙ ap (λ a. unless (answer_told a) (whole_grid strings cells_cleared) []) (may ∙ ap (λ (e : GridError). let a : Answer = Err e in a) cut)),
          same,
        );
      }

  clear_keeps : (book : machine.Book) (index : ℕ) → valid_machine.IsValidBook book → StaysValid (on_grid book index (clear_step all b))
  clear_keeps book index valid = by_all all
    where
      by_all : (all : Bool) → StaysValid (on_grid book index (clear_step all b))
      by_all true = arrays_stay book valid (arrays.RangeClearAll index b)
      by_all false = arrays_stay book valid (arrays.RangeClearContents index b)

  cleared_texts : (after : Grid) → after ≡ cells_cleared → (count : ℕ) → HasStrings count grid → HasStrings count after
  cleared_texts after is count h = subst (HasStrings count) (sym is) (all_cleared celled (HasText count) (texts_passed count) b all grid.cells h)

  pub clear_held : (after : Grid) (r : Result (Unit {0}) BookError) → DoesGrid false (clear_step all b) no_fields r grid after → after ≡ cells_cleared → StaysHeld grid after
  clear_held after r does is = stays_held false (clear_step all b) clear_keeps grid after (cleared_texts after is) r does

-- The value of a formula. ----

module _ (grid : Grid) (p : Place) (value : FormulaValue) where
  abbrev pub cells_valued : Grid
  cells_valued = record grid { cells = valued celled p value grid.cells }

  formula_told : (formula : Bool) → first_refusal ((not formula, NoFormulaCell) ∷ []) ≡ answer_told (refused_by (not formula) grid_errors.NoFormulaCell (Ok tt))
  formula_told true = refl
  formula_told false = refl

  value_is : (strings : List (List ℕ)) → put_value_step p value (whole_grid strings grid) ≡ unless (answer_told (can_write_value celled grid.cells p)) (whole_grid strings cells_valued) []
  unfolding put_value_step
  value_is strings =
      ap₂ (λ (s : Shape) (m : Contents Content). unless (first_refusal ((not (is_formula s), NoFormulaCell) ∷ [])) (with_grid_contents (whole_grid strings grid) m) []) (shape_seen strings grid.cells p)
      (seen_is strings grid.cells (valued celled p value grid.cells) _ (valued_seen (content_of strings) celled held (cells_are_contents strings) grid.cells (seen_by (content_of strings) grid.cells) (is_seen strings grid.cells) p value))
      ∙ ap (λ o. unless o (whole_grid strings cells_valued) []) (formula_told (is_formula (shape_at celled grid.cells p)))

  pub value_done : can_write_value celled grid.cells p ≡ Ok tt → (after : Grid) → after ≡ cells_valued → DoesGrid true (put_value_step p value) no_fields (Ok tt) grid after
  value_done may after is = record {
    done = λ strings.
        value_is strings ∙ ap (λ a. unless (answer_told a) (whole_grid strings cells_valued) []) may
        ∙ ap (λ (g : Grid). let made : Stepped machine.Grid = Ok (whole_grid strings g, []) in made) (sym is);
  }

  pub value_refused : (e : GridError) → IsRefusal (can_write_value celled grid.cells p) e → (after : Grid) → after ≡ grid → (f : BookError) → f ≡ of_grid e → DoesGrid true (put_value_step p value) no_fields (Err f) grid after
  value_refused e why after same f told = record {
    done = λ strings. (
      subst (λ (f : BookError). PartRefused true (put_value_step p value (whole_grid strings grid)) (refusal_of f)) (sym told)
          (part_told (put_value_step p value (whole_grid strings grid)) (whole_grid strings cells_valued) (can_write_value celled grid.cells p) (value_is strings) e why),
      same,
    );
  }

  pub value_held : (after : Grid) (r : Result (Unit {0}) BookError) → DoesGrid true (put_value_step p value) no_fields r grid after → after ≡ cells_valued → StaysHeld grid after
  value_held after r does is =
      stays_held true (put_value_step p value) (λ book index valid. arrays_stay book valid (arrays.PutFormulaValue index p value)) grid after
      (λ count h. subst (HasStrings count) (sym is) (all_valued celled (HasText count) (texts_passed count) p value grid.cells h)) r does

-- The values of an array. ----

module _ (grid : Grid) (b : Block) (values : List SpillValue) where
  abbrev pub cells_spilled : Grid
  cells_spilled = record grid { cells = spilled celled grid.rows grid.columns b values grid.cells }

  blocking_told : (o : Option Place) → first_refusal (blocked_causes o) ≡ answer_told (blocked_by o)
  blocking_told None = refl
  blocking_told (Some q) = refl

  spill_told : (anchor misfit : Bool) (o : Option Place) → first_refusal ((not anchor, NoFormulaCell) ∷ (misfit, BadArea) ∷ blocked_causes o) ≡ answer_told (refused_by (not anchor) grid_errors.NoFormulaCell (refused_by misfit grid_errors.BadArea (blocked_by o)))
  spill_told false misfit o = refl
  spill_told true true o = refl
  spill_told true false o = blocking_told o

  spill_is : (strings : List (List ℕ)) → put_spill_step b values (whole_grid strings grid) ≡ unless (answer_told (can_spill celled grid.merged_cells grid.cells b (length values))) (whole_grid strings cells_spilled) []
  unfolding put_spill_step
  spill_is strings =
      let count : ℕ = length values in
      let see = seen_by (content_of strings) grid.cells in
      ap₂ (λ (o : Option Place) (m : Contents Content). unless (first_refusal ((not (is_anchor (shape_at held see (first_place b))), NoFormulaCell) ∷ (misfits b count (shape_at held see (first_place b)), BadArea) ∷ blocked_causes o)) (with_grid_contents (whole_grid strings grid) m) [])
      (blocking_same (content_of strings) celled held (cells_are_contents strings) grid.cells see (is_seen strings grid.cells) grid.merged_cells b count)
      (seen_is strings grid.cells (spilled celled grid.rows grid.columns b values grid.cells) _ (spilled_seen (content_of strings) celled held (cells_are_contents strings) grid.rows grid.columns b values grid.cells see (is_seen strings grid.cells)))
      ∙ ap (λ (s : Shape). unless (first_refusal ((not (is_anchor s), NoFormulaCell) ∷ (misfits b count s, BadArea) ∷ blocked_causes (first_blocking celled grid.merged_cells grid.cells b count))) (whole_grid strings cells_spilled) []) (shape_seen strings grid.cells (first_place b))
      ∙ ap (λ o. unless o (whole_grid strings cells_spilled) [])
      (spill_told (is_anchor (shape_at celled grid.cells (first_place b))) (misfits b count (shape_at celled grid.cells (first_place b))) (first_blocking celled grid.merged_cells grid.cells b count))

  pub spill_done : can_spill celled grid.merged_cells grid.cells b (length values) ≡ Ok tt → (after : Grid) → after ≡ cells_spilled → DoesGrid true (put_spill_step b values) no_fields (Ok tt) grid after
  spill_done may after is = record {
    done = λ strings.
        spill_is strings ∙ ap (λ a. unless (answer_told a) (whole_grid strings cells_spilled) []) may
        ∙ ap (λ (g : Grid). let made : Stepped machine.Grid = Ok (whole_grid strings g, []) in made) (sym is);
  }

  pub spill_refused : (e : GridError) → IsRefusal (can_spill celled grid.merged_cells grid.cells b (length values)) e → (after : Grid) → after ≡ grid → (f : BookError) → f ≡ of_grid e → DoesGrid true (put_spill_step b values) no_fields (Err f) grid after
  spill_refused e why after same f told = record {
    done = λ strings. (
      subst (λ (f : BookError). PartRefused true (put_spill_step b values (whole_grid strings grid)) (refusal_of f)) (sym told)
          (part_told (put_spill_step b values (whole_grid strings grid)) (whole_grid strings cells_spilled) (can_spill celled grid.merged_cells grid.cells b (length values)) (spill_is strings) e why),
      same,
    );
  }

  pub spill_held : (after : Grid) (r : Result (Unit {0}) BookError) → DoesGrid true (put_spill_step b values) no_fields r grid after → after ≡ cells_spilled → StaysHeld grid after
  spill_held after r does is =
      stays_held true (put_spill_step b values) (λ book index valid. arrays_stay book valid (arrays.PutSpill index b values)) grid after
      (λ count h. subst (HasStrings count) (sym is) (all_spilled celled (HasText count) (texts_passed count) grid.rows grid.columns (λ m have q a value. tt) b values grid.cells h)) r does
