-- How the machine sees the cells that an array formula is written into.
use Rattle.std.proofs.Common.{◌≡◌, ℕ, zero, suc, ◌-◌, List, [], ◌∷◌, Bool, true, false, not, length, Option, Some, None, option_map, Result, Ok, Err, refl, sym, ap, ap₂, subst, ◌∙◌, IfErr, IfSome, OnErr, OnOk, if◌then◌else◌}
use Rattle.std.specs.FinMap as finite
use Rattle.std.specs.List.{slice_get}
use Rattle.std.proofs.lemmas.Option.{slice_get-map}
use Rattle.ic_laws.proofs.core.Lists.{all_updated}
use Rattle.ic_laws.specs.CoreBook.{CoreBook}
use Rattle.ic_laws.specs.FormulaReading.{cell_formula, is_formula_text, without_equals}
use Rattle.ic_laws.specs.declared.tree.Formula.{Formula}
use Rattle.ic_cells.specs.declared.cell.ArrayKind.TheVariants as kinds
use Rattle.ic_cells.specs.declared.cell.Cell.{Cell}
use Rattle.ic_cells.specs.declared.style.Style.{Style}
use Rattle.ic_cells.specs.declared.value.SpillValue.TheVariants as spills
use Rattle.ic_grid.specs.Arrays.{has_fixed, is_fixed}
use Rattle.ic_grid.specs.Block.{Place, first_place, is_area, next_place}
use Rattle.ic_grid.specs.Calls.{can_write_array, refused_by}
use Rattle.ic_grid.specs.Contents.{Contents}
use Rattle.ic_grid.specs.Merges.{meets_merge}
use Rattle.ic_grid.specs.Prepare.{loosened_in}
use Rattle.ic_grid.specs.Shape.{celled}
use Rattle.ic_grid.specs.Spill.{array_written, unquoted, with_blanks, written_style}
use Rattle.ic_grid.specs.Style.{Columns, Rows, style_at}
use Rattle.ic_grid.specs.Written as grids
use Rattle.ic_grid.specs.declared.block.Block.{Block}
use Rattle.ic_grid.specs.declared.error.GridError.{GridError}
use Rattle.ic_grid.specs.declared.error.GridError.TheVariants as grid_errors
use Rattle.ic_grid.specs.declared.grid.Grid.{Grid}
use Rattle.ic_machine.proofs.contents.AlikeGrid.{insert-seen, style_at-seen}
use Rattle.ic_machine.proofs.contents.AlikeLemmas.{cells_are_contents}
use Rattle.ic_machine.proofs.valid.ArraysStay.{arrays_stay}
use Rattle.ic_machine.proofs.contents.HaveLemmas.{AllHave, all_loosened, all_put}
use Rattle.ic_machine.proofs.contents.PlacedLemmas.{placed_index}
use Rattle.ic_machine.proofs.contents.SeenLemmas.{released_seen}
use Rattle.ic_machine.specs.Alike.{seen_by}
use Rattle.ic_machine.specs.Book as machine
use Rattle.ic_machine.specs.Book.{Stepped, found_or, unless}
use Rattle.ic_machine.specs.Content.{Content, content_of, held}
use Rattle.ic_machine.specs.Kept.{StaysValid}
use Rattle.ic_machine.specs.Placed.{index_in_pool, pool_with}
use Rattle.ic_machine.specs.Refusal.{ArrayPart, BadArea, InvalidSheet, MergedPart, NotAFormula, Refusal, first_refusal}
use Rattle.ic_machine.specs.subjects.Arrays as arrays
use Rattle.ic_machine.specs.subjects.Arrays.{array_step, place_count}
use Rattle.ic_machine.specs.subjects.Writing.{formula_at_place}
use Rattle.ic_sheets.specs.Sheet.{Sheet}
use Rattle.ic_parts.specs.Arrays.{WritesArray, after_equals, array_causes, array_refusal, array_refusal_in, with_array}
use Rattle.ic_parts.specs.Book.{Book, HasString, HasStrings, IsValidBook, ModelState, notations_in, whole_of, whole_sheet}
use Rattle.ic_parts.specs.Does.{DoesStep, IsDone, Refused, WantedIn}
use Rattle.ic_parts.specs.Fields.{no_fields}
use Rattle.ic_parts.specs.Refused.{of_grid, refusal_of}
use Rattle.ic_parts.specs.Written.{written_formula}
use Rattle.ic_parts.specs.declared.error.BookError.{BookError}
use Rattle.ic_parts.specs.declared.error.BookError.TheVariants as errors
use Rattle.ic_parts.proofs.ArrayLemmas.{has_in_seen, is_seen, seen_is, texts_passed}
use Rattle.ic_parts.proofs.WholeLemmas.{whole_core}
use Rattle.ic_parts.proofs.WrittenLemmas.{one_of_all, updated_alike}

-- How the machine sees the cells. ----

module _ (strings : List (List ℕ)) (rows : Rows) (columns : Columns) (b : Block) where
  abbrev see : Contents Cell → Contents Content
  see m = seen_by (content_of strings) m

  abbrev see_both : Contents Cell × List Style → Contents Content × List Style
  see_both left = (see left.0, left.1)

  -- what is put at a place is seen there
  put_seen : (m : Contents Cell) (p : Place) (x : Cell) (y : Content) → y ≡ content_of strings x → finite.insert (see m) p y ≡ see (finite.insert m p x)
  put_seen m p x y same = ap (finite.insert (see m) p) same ∙ sym (insert-seen (content_of strings) m p x)

  style_seen : (m : Contents Cell) (q : Place) → style_at held (see m) rows columns q ≡ style_at celled m rows columns q
  style_seen m q = style_at-seen (content_of strings) celled held (cells_are_contents strings) m rows columns q

  blanks_seen : (n : ℕ) (q : Place) (m : Contents Cell) (styles : List Style) → with_blanks held rows columns b n q (see m) styles ≡ see_both (with_blanks celled rows columns b n q m styles)
  blanks_seen zero q m styles = refl
  blanks_seen (suc n) q m styles =
      let number : ℕ × List Style = written_style celled rows columns m styles q in
      let x : Cell = celled.spill number.0 (first_place b) (spills.Text []) in
      ap (λ k. with_blanks held rows columns b n (next_place b q) (finite.insert (see m) q (held.spill (unquoted styles k).0 (first_place b) (spills.Text []))) (unquoted styles k).1) (style_seen m q)
      ∙ ap (λ (c : Contents Content). with_blanks held rows columns b n (next_place b q) c number.1)
      (put_seen m q x (held.spill number.0 (first_place b) (spills.Text [])) ((cells_are_contents strings).spill number.0 (first_place b) (spills.Text [])))
      ∙ blanks_seen n (next_place b q) (finite.insert m q x) number.1

  loosened_same : (m : Contents Cell) → loosened_in held b (see m) ≡ see (loosened_in celled b m)
  loosened_same m =
      seen_is strings m (loosened_in celled b m) (loosened_in held b (see m))
      (released_seen (content_of strings) celled held (cells_are_contents strings) m (see m) (is_seen strings m) b)

  array_seen : (more f : ℕ) (m : Contents Cell) (styles : List Style) → array_written held rows columns b more f (see m) styles ≡ see_both (array_written celled rows columns b more f m styles)
  array_seen more f m styles =
      let number : ℕ × List Style = written_style celled rows columns m styles (first_place b) in
      let x : Cell = celled.array f number.0 b.width b.height kinds.Cse in
      ap (λ k. with_blanks held rows columns b more (next_place b (first_place b)) (finite.insert (loosened_in held b (see m)) (first_place b) (held.array f (unquoted styles k).0 b.width b.height kinds.Cse)) (unquoted styles k).1) (style_seen m (first_place b))
      ∙ ap (λ (c : Contents Content). with_blanks held rows columns b more (next_place b (first_place b)) c number.1)
      (ap (λ (c : Contents Content). finite.insert c (first_place b) (held.array f number.0 b.width b.height kinds.Cse)) (loosened_same m)
      ∙ put_seen (loosened_in celled b m) (first_place b) x (held.array f number.0 b.width b.height kinds.Cse) ((cells_are_contents strings).array f number.0 b.width b.height kinds.Cse))
      ∙ blanks_seen more (next_place b (first_place b)) (finite.insert (loosened_in celled b m) (first_place b) x) number.1

-- its texts are among the shared strings
module _ (count : ℕ) (rows : Rows) (columns : Columns) (b : Block) where
  abbrev HasText : Place → Cell → Type 0
  HasText q x = HasString count x

  blanks_have : (n : ℕ) (q : Place) (m : Contents Cell) (styles : List Style) → AllHave celled HasText m → AllHave celled HasText (with_blanks celled rows columns b n q m styles).0
  blanks_have zero q m styles have = have
  blanks_have (suc n) q m styles have =
      let number : ℕ × List Style = written_style celled rows columns m styles q in
      let x : Cell = celled.spill number.0 (first_place b) (spills.Text []) in
      blanks_have n (next_place b q) (finite.insert m q x) number.1 (all_put celled HasText m q x have tt)

  array_has : (more f : ℕ) (m : Contents Cell) (styles : List Style) → AllHave celled HasText m → AllHave celled HasText (array_written celled rows columns b more f m styles).0
  array_has more f m styles have =
      let number : ℕ × List Style = written_style celled rows columns m styles (first_place b) in
      let x : Cell = celled.array f number.0 b.width b.height kinds.Cse in
      blanks_have more (next_place b (first_place b)) (finite.insert (loosened_in celled b m) (first_place b) x) number.1
      (all_put celled HasText (loosened_in celled b m) (first_place b) x (all_loosened celled HasText (texts_passed count) b m have) tt)

-- What refuses it. ----

-- the three causes that don't ask for the text, with it
text_told : (area merged fixed good : Bool) (r : Refusal) → first_refusal ((area, BadArea) ∷ (merged, MergedPart) ∷ (fixed, ArrayPart) ∷ []) ≡ Some r
    → first_refusal ((area, BadArea) ∷ (merged, MergedPart) ∷ (fixed, ArrayPart) ∷ (not good, NotAFormula) ∷ []) ≡ Some r
text_told true merged fixed good r e = e
text_told false true fixed good r e = e
text_told false false true good r e = e
text_told false false false good r e = cc

text_alone : (area merged fixed good : Bool) → first_refusal ((area, BadArea) ∷ (merged, MergedPart) ∷ (fixed, ArrayPart) ∷ []) ≡ None
    → first_refusal ((area, BadArea) ∷ (merged, MergedPart) ∷ (fixed, ArrayPart) ∷ (not good, NotAFormula) ∷ []) ≡ first_refusal ((not good, NotAFormula) ∷ [])
text_alone true merged fixed good e = cc
text_alone false true fixed good e = cc
text_alone false false true good e = cc
text_alone false false false good e = refl

-- where none holds a sheet takes the array
pub all_clear : (area merged fixed : Bool) → first_refusal ((not area, BadArea) ∷ (merged, MergedPart) ∷ (fixed, ArrayPart) ∷ []) ≡ None
    → (area ≡ true) × (refused_by merged grid_errors.MergedPart (refused_by fixed grid_errors.ArrayPart (Ok tt)) ≡ Ok tt)
all_clear true false false e = (refl, refl)
all_clear true true fixed e = cc
all_clear true false true e = cc
all_clear false merged fixed e = cc

-- what the grid answers tells which of them holds
module _ (g : Grid) (b : Block) (area : is_area b ≡ true) where
  pub array_tells : (e : GridError) → can_write_array celled g.merged_cells g.cells b ≡ Err e → (f : BookError) → f ≡ of_grid e → (told : Refusal) × (refusal_of f ≡ Some told) × (first_refusal (array_causes g b) ≡ Some told)
  array_tells e may f is = by_causes (is_area b) area (meets_merge g.merged_cells b) (has_fixed celled g.cells b) may
    where
      by_causes : (inside : Bool) → inside ≡ true → (merged fixed : Bool) → refused_by merged grid_errors.MergedPart (refused_by fixed grid_errors.ArrayPart (Ok tt)) ≡ Err e
          → (told : Refusal) × (refusal_of f ≡ Some told) × (first_refusal ((not inside, BadArea) ∷ (merged, MergedPart) ∷ (fixed, ArrayPart) ∷ []) ≡ Some told)
      by_causes false inside merged fixed may = cc
      by_causes true inside true fixed may = let same : e ≡ grid_errors.MergedPart = cc in (MergedPart, ap refusal_of (is ∙ ap of_grid same), refl)
      by_causes true inside false true may = let same : e ≡ grid_errors.ArrayPart = cc in (ArrayPart, ap refusal_of (is ∙ ap of_grid same), refl)
      by_causes true inside false false may = cc

  pub array_may : can_write_array celled g.merged_cells g.cells b ≡ Ok tt → first_refusal (array_causes g b) ≡ None
  array_may may = by_causes (is_area b) area (meets_merge g.merged_cells b) (has_fixed celled g.cells b) may
    where
      by_causes : (inside : Bool) → inside ≡ true → (merged fixed : Bool) → refused_by merged grid_errors.MergedPart (refused_by fixed grid_errors.ArrayPart (Ok tt)) ≡ Ok tt
          → first_refusal ((not inside, BadArea) ∷ (merged, MergedPart) ∷ (fixed, ArrayPart) ∷ []) ≡ None
      by_causes false inside merged fixed may = cc
      by_causes true inside true fixed may = cc
      by_causes true inside false true may = cc
      by_causes true inside false false may = refl

-- the sheet is there where nothing refuses it
pub sheet_found : (b : Block) (o : Option Sheet) → array_refusal_in b o ≡ None → (s : Sheet) × (o ≡ Some s) × (first_refusal (array_causes s.grid b) ≡ None)
sheet_found b None e = cc
sheet_found b (Some s) e = (s, refl, e)

-- the text, by what stands after its equals sign
pub body_is : (text body : List ℕ) → after_equals text ≡ Some body → (is_formula_text text ≡ true) × (without_equals text ≡ body)
body_is text body e = by_test (is_formula_text text) refl e
  where
    by_test : (t : Bool) → is_formula_text text ≡ t → (if t then Some (without_equals text) else None) ≡ Some body → (is_formula_text text ≡ true) × (without_equals text ≡ body)
    by_test true good f = (good, cc)
    by_test false bad f = cc

pub no_body : (text : List ℕ) → after_equals text ≡ None → is_formula_text text ≡ false
no_body text e = by_test (is_formula_text text) refl e
  where
    by_test : (t : Bool) → is_formula_text text ≡ t → (if t then Some (without_equals text) else None) ≡ None → is_formula_text text ≡ false
    by_test true good f = cc
    by_test false bad f = bad

-- The step. ----

module _ (book : Book) (valid : IsValidBook book) (index : ℕ) (b : Block) (text : List ℕ) where
  abbrev whole : machine.Book
  whole = whole_of book

  abbrev seen : Sheet → machine.Sheet
  seen s = whole_sheet book.strings s

  abbrev its_formula : Sheet → Formula
  its_formula s = formula_at_place whole (seen s) (first_place b) (without_equals text)

  abbrev left_at : Sheet → machine.Book
  left_at s = arrays.with_array whole index (seen s) b (its_formula s)

  abbrev step_at : Option machine.Sheet → Stepped machine.Book
  step_at o =
      found_or InvalidSheet (option_map (λ sheet. unless (first_refusal (arrays.array_causes sheet b text))
      (arrays.with_array whole index sheet b (formula_at_place whole sheet (first_place b) (without_equals text))) []) o)

  step_is : array_step index b text whole ≡ step_at (option_map seen (slice_get book.sheets index))
  unfolding array_step
  step_is = ap step_at (slice_get-map seen book.sheets index)

  fixed_seen : (s : Sheet) → has_fixed held (seen s).grid.contents b ≡ has_fixed celled s.grid.cells b
  fixed_seen s = has_in_seen book.strings s.grid.cells b is_fixed

  causes_are : (s : Sheet) → first_refusal (arrays.array_causes (seen s) b text) ≡ first_refusal ((not (is_area b), BadArea) ∷ (meets_merge s.grid.merged_cells b, MergedPart) ∷ (has_fixed celled s.grid.cells b, ArrayPart) ∷ (not (is_formula_text text), NotAFormula) ∷ [])
  causes_are s =
      ap (λ (fixed : Bool). first_refusal ((not (is_area b), BadArea) ∷ (meets_merge s.grid.merged_cells b, MergedPart) ∷ (fixed, ArrayPart) ∷ (not (is_formula_text text), NotAFormula) ∷ [])) (fixed_seen s)

  told_at : (o : Option Sheet) (r : Refusal) → array_refusal_in b o ≡ Some r → step_at (option_map seen o) ≡ Err r
  told_at None r e = let is : InvalidSheet ≡ r = cc in ap (λ (x : Refusal). let made : Stepped machine.Book = Err x in made) is
  told_at (Some s) r e =
      ap (λ o. unless o (left_at s) [])
      (causes_are s ∙ text_told (not (is_area b)) (meets_merge s.grid.merged_cells b) (has_fixed celled s.grid.cells b) (is_formula_text text) r e)

  pub array_told : (r : Refusal) → array_refusal book index b ≡ Some r → array_step index b text (whole_of book) ≡ Err r
  array_told r e = step_is ∙ told_at (slice_get book.sheets index) r e

  module _ (s : Sheet) (at_index : slice_get book.sheets index ≡ Some s) (none : first_refusal (array_causes s.grid b) ≡ None) where
    step_on : array_step index b text (whole_of book) ≡ unless (first_refusal ((not (is_formula_text text), NotAFormula) ∷ [])) (left_at s) []
    step_on =
        step_is ∙ ap (λ o. step_at (option_map seen o)) at_index
        ∙ ap (λ o. unless o (left_at s) []) (causes_are s ∙ text_alone (not (is_area b)) (meets_merge s.grid.merged_cells b) (has_fixed celled s.grid.cells b) (is_formula_text text) none)

    pub no_text : is_formula_text text ≡ false → array_step index b text (whole_of book) ≡ Err NotAFormula
    no_text bad = step_on ∙ ap (λ good. unless (first_refusal ((not good, NotAFormula) ∷ [])) (left_at s) []) bad

    module _ (good : is_formula_text text ≡ true) where
      done_at : array_step index b text (whole_of book) ≡ Ok (left_at s, [])
      done_at = step_on ∙ ap (λ good. unless (first_refusal ((not good, NotAFormula) ∷ [])) (left_at s) []) good

      pub array_accepted : IsDone (array_step index b text (whole_of book))
      array_accepted = subst IsDone (sym done_at) tt

      module _ (new : Book) (w : WritesArray index s b (without_equals text) book new) where
        abbrev formula : Formula
        formula = written_formula book s (first_place b) (without_equals text)

        abbrev cells_at : ℕ → Contents Cell × List Style
        cells_at i = array_written celled s.grid.rows s.grid.columns b (place_count b - 1) i s.grid.cells book.styles

        formula_is : its_formula s ≡ formula
        formula_is = ap (λ (c : CoreBook). cell_formula (notations_in book) c s.id (first_place b).0 (first_place b).1 (without_equals text)) (whole_core book)

        index_is : (index_in_pool formula s.pool ≡ w.at) × (pool_with formula s.pool ≡ w.pool)
        index_is = placed_index formula w.at s.pool w.pool w.placed

        left_is : left_at s ≡ arrays.with_contents whole index (seen s) w.pool (see_both book.strings s.grid.rows s.grid.columns b (cells_at w.at))
        left_is =
            ap (arrays.with_array whole index (seen s) b) formula_is
            ∙ ap₂ (λ (pool : List Formula) (i : ℕ). arrays.with_contents whole index (seen s) pool (array_written held s.grid.rows s.grid.columns b (place_count b - 1) i (seen s).grid.contents book.styles)) index_is.1 index_is.0
            ∙ ap (arrays.with_contents whole index (seen s) w.pool) (array_seen book.strings s.grid.rows s.grid.columns b (place_count b - 1) w.at s.grid.cells book.styles)

        -- the sheet with the array, as a whole one
        abbrev put_in_sheet : Sheet → Sheet
        put_in_sheet sheet = record sheet { pool = w.pool; grid = (grids.with_array s.grid b w.at book.styles).0 }

        abbrev left : Book
        left = with_array index s w.pool b w.at book

        abbrev whole_put : machine.Sheet
        whole_put = record (seen s) { pool = w.pool; grid = record (seen s).grid { contents = seen_by (content_of book.strings) (cells_at w.at).0 } }

        left_done : array_step index b text (whole_of book) ≡ Ok (whole_of left, [])
        left_done =
            done_at
            ∙ ap (λ (b : machine.Book). let made : Stepped machine.Book = Ok (b, []) in made)
            (left_is
            ∙ ap (λ (sheets : List machine.Sheet). let b : machine.Book = record whole { sheets = sheets; styles = (cells_at w.at).1 } in b)
            (sym (updated_alike seen put_in_sheet (λ old. whole_put) index book.sheets s at_index refl)))

        pub array_done : array_step index b text (whole_of book) ≡ Ok (whole_of new, [])
        array_done = left_done ∙ ap (λ (b : Book). let made : Stepped machine.Book = Ok (whole_of b, []) in made) (sym w.is)

        its_texts : HasStrings (length book.strings) s.grid → HasStrings (length book.strings) (grids.with_array s.grid b w.at book.styles).0
        its_texts h = array_has (length book.strings) s.grid.rows s.grid.columns b (place_count b - 1) w.at s.grid.cells book.styles h

        pub array_valid : IsValidBook new
        array_valid = subst IsValidBook (sym w.is) (record {
          whole = subst StaysValid left_done (arrays_stay (whole_of book) valid.whole (arrays.SetUserArrayFormula index b text));
          strings = all_updated (λ (s : Sheet). HasStrings (length book.strings) s.grid) put_in_sheet
              (λ sheet old. its_texts (one_of_all (λ (s : Sheet). HasStrings (length book.strings) s.grid) index book.sheets s at_index valid.strings)) index book.sheets valid.strings;
        })

-- What the call does. ----

module _ (old : ModelState) (valid : IsValidBook old.book) (index : ℕ) (b : Block) (text : List ℕ) where
  abbrev made : Stepped machine.Book
  made = array_step index b text (whole_of old.book)

  pub array_refused : (e : BookError) (told : Refusal) → refusal_of e ≡ Some told → array_refusal old.book index b ≡ Some told → DoesStep WantedIn (array_step index b text (whole_of old.book)) no_fields (Err e) old old
  array_refused e told is refuses = record {
    done = subst (Refused WantedIn made old old) (sym is) (array_told old.book valid index b text told refuses, refl);
    before = valid;
    after = valid;
  }

  module _ (none : array_refusal old.book index b ≡ None) where
    its : (s : Sheet) × (slice_get old.book.sheets index ≡ Some s) × (first_refusal (array_causes s.grid b) ≡ None)
    its = sheet_found b (slice_get old.book.sheets index) none

    pub array_no_formula : after_equals text ≡ None → DoesStep WantedIn (array_step index b text (whole_of old.book)) no_fields (Err errors.NotAFormula) old old
    array_no_formula e = record { done = (no_text old.book valid index b text its.0 its.1 its.2 (no_body text e), refl); before = valid; after = valid }

    module _ (new : ModelState) (body : List ℕ) (typed : after_equals text ≡ Some body) where
      abbrev good : is_formula_text text ≡ true
      good = (body_is text body typed).0

      pub array_does : (r : Result (Unit {0}) BookError) → OnOk r (IfSome (slice_get old.book.sheets index) (λ s. WritesArray index s b body old.book new.book)) → IfErr r (λ e. refusal_of e ≡ None) → OnErr r (new.book ≡ old.book)
          → DoesStep WantedIn (array_step index b text (whole_of old.book)) no_fields r old new
      array_does (Ok done) written memory same =
          let w : WritesArray index its.0 b body old.book new.book = subst (λ o. IfSome o (λ s. WritesArray index s b body old.book new.book)) its.1 written in
          let w_text : WritesArray index its.0 b (without_equals text) old.book new.book = subst (λ body. WritesArray index its.0 b body old.book new.book) (sym (body_is text body typed).1) w in
          record {
            done = array_done old.book valid index b text its.0 its.1 its.2 good new.book w_text;
            before = valid;
            after = array_valid old.book valid index b text its.0 its.1 its.2 good new.book w_text;
          }
      array_does (Err e) written memory same = record {
        done = subst (Refused WantedIn made old new) (sym memory) (array_accepted old.book valid index b text its.0 its.1 its.2 good, same);
        before = valid;
        after = subst IsValidBook (sym same) valid;
      }
