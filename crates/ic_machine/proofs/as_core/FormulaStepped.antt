-- The command that writes a formula: seen by the core, it is the identity machine's.
use Rattle.std.proofs.Common.{◌≡◌, ℕ, zero, suc, List, [], ◌∷◌, map, length, Bool, true, false, cond, Option, Some, None, Ok, refl, sym, ap, ◌∙◌, inl, inr, le-ltb as past_end}
use mathlib.Core.Bool.{true≢false}
use Rattle.std.proofs.lemmas.Bool.{lt-ltb, not-false}
use Rattle.std.proofs.lemmas.List.{length-map}
use Rattle.std.proofs.lemmas.Option.{slice_get_cases}
use Rattle.std.specs.List.{slice_get}
use Rattle.std.specs.Prelude.{◌==◌, nat_lt, not, is_none, is_some, option_map, unwrap_or, pos}
use Rattle.ic_laws.specs.Character.{equals}
use Rattle.ic_laws.specs.Command as commands
use Rattle.ic_laws.specs.CoreBook.{CellPlace, Cells, CoreBook}
use Rattle.ic_laws.specs.CoreBook as core_book
use Rattle.ic_laws.specs.CoreStep as core
use Rattle.ic_laws.specs.CoreStep.{core_step, lacks_sheet, updated_at}
use Rattle.ic_laws.specs.FormulaReading.{is_formula_text, without_equals}
use Rattle.ic_laws.specs.Position.{is_column, is_row}
use Rattle.ic_laws.specs.Refusal as refusals
use Rattle.ic_laws.specs.declared.tree.Formula.{Formula}
use Rattle.ic_tables.specs.declared.locale.Locale.{Locale}
use Rattle.ic_cells.specs.declared.cell.ArrayKind.TheVariants as arrays
use Rattle.ic_cells.specs.declared.value.FormulaValue.TheVariants as fvalues
use Rattle.ic_grid.specs.Arrays.{is_fixed_at}
use Rattle.ic_grid.specs.Merges.{is_covered}
use Rattle.ic_input.specs.Convention.{is_sign}
use Rattle.ic_input.specs.Typed.{formula_of}
use Rattle.ic_machine.specs.Book.{Book, Sheet, core_of, core_sheet, found_or, notations_in, style_number_at, unless_refused}
use Rattle.ic_machine.specs.Content.{AnchorContent, Content, FormulaContent, formula_index, held}
use Rattle.ic_machine.specs.Core.{HasPooled, IsFree, TakesFormula, begins_with_sign, told_by, told_by_core}
use Rattle.ic_machine.specs.InForce.{InForce, by_notation, formula_typed, in_force}
use Rattle.ic_machine.specs.Placed.{index_in_pool, is_dynamic}
use Rattle.ic_machine.specs.Refusal.{ArrayPart, InvalidColumn, InvalidRow, InvalidSheet, MergedPart, NotAFormula}
use Rattle.ic_machine.specs.Styling.{restyled}
use Rattle.ic_machine.specs.subjects.Writing.{formula_at_place, formula_content, formula_step, formula_written, unquoted, with_content, with_written, write_step}
use Rattle.ic_machine.proofs.as_core.FormulaLemmas.{cells_after}

-- what is left ----

put_seen : {X Y : Type 0} (g : X → Y) (h : Y → Y) (new : X) (xs : List X) (i : ℕ) (old : X) → slice_get xs i ≡ Some old → g new ≡ h (g old) → map g (updated_at (λ x. new) i xs) ≡ updated_at h i (map g xs)
put_seen g h new [] i old e same = refl
put_seen g h new (x ∷ xs) zero old e same = let is : x ≡ old = cc in ap (λ y. y ∷ map g xs) (same ∙ ap (λ z. h (g z)) (sym is))
put_seen g h new (x ∷ xs) (suc i) old e same = ap (λ rest. g x ∷ rest) (put_seen g h new xs i old e same)

pub indexed : (b : Bool) (index style : ℕ) → formula_index (cond b (AnchorContent index (pos 1, pos 1) arrays.Dynamic fvalues.Unevaluated style) (FormulaContent index fvalues.Unevaluated style)) ≡ Some index
indexed true index style = refl
indexed false index style = refl

module _ (b : Book) (index : ℕ) (place : CellPlace) (formula : List ℕ) (s : Sheet) (at : slice_get b.sheets index ≡ Some s) (pooled : HasPooled s) where
  abbrev made : Formula
  made = formula_at_place b s place formula

  abbrev style : ℕ
  style = (restyled unquoted (style_number_at s.grid place.0 place.1) b.styles).number

  abbrev content : Content
  content = formula_content b.tables.kinds made (index_in_pool made s.pool) style

  left_seen : core_of (with_written b index s place (formula_written b s made))
      ≡ record (core_of b) { sheets = updated_at (core.with_formula (notations_in b) (core_of b) place.0 place.1 formula) index (core_of b).sheets }
  left_seen =
      ap (λ (sheets : List core_book.Sheet). let c : CoreBook = record { sheets = sheets; definitions = b.definitions; locale = b.locale; language = b.language } in c)
      (put_seen core_sheet (core.with_formula (notations_in b) (core_of b) place.0 place.1 formula)
      (with_content place (formula_written b s made).pool content s) b.sheets index s at
      (ap (λ (cells : Cells). let c : core_book.Sheet = record { id = s.id; name = s.name; cells = cells } in c)
      (cells_after s place made content pooled (indexed (is_dynamic b.tables.kinds made) (index_in_pool made s.pool) style))))

-- what refuses it ----

told_causes : (lacks row column covered fixed bad : Bool) (whole : Book) (left : CoreBook) → lacks ≡ false → covered ≡ false → fixed ≡ false → (bad ≡ false → core_of whole ≡ left)
    → told_by (unless_refused ((row, InvalidRow) ∷ (column, InvalidColumn) ∷ (covered, MergedPart) ∷ (fixed, ArrayPart) ∷ (bad, NotAFormula) ∷ []) whole [])
    ≡ told_by_core (core.unless_refused (refusals.first_refusal ((lacks, refusals.InvalidSheet) ∷ (row, refusals.InvalidRow) ∷ (column, refusals.InvalidColumn) ∷ (bad, refusals.NotAFormula) ∷ [])) left [])
told_causes true row column covered fixed bad whole left l c f h = absurd (true≢false l)
told_causes false true column covered fixed bad whole left l c f h = refl
told_causes false false true covered fixed bad whole left l c f h = refl
told_causes false false false true fixed bad whole left l c f h = absurd (true≢false c)
told_causes false false false false true bad whole left l c f h = absurd (true≢false f)
told_causes false false false false false true whole left l c f h = refl
told_causes false false false false false false whole left l c f h = ap (λ (k : CoreBook). Ok (k, [])) (h refl)

told_lacking : (lacks row column bad : Bool) (left : CoreBook) → lacks ≡ true
    → told_by (found_or InvalidSheet None) ≡ told_by_core (core.unless_refused (refusals.first_refusal ((lacks, refusals.InvalidSheet) ∷ (row, refusals.InvalidRow) ∷ (column, refusals.InvalidColumn) ∷ (bad, refusals.NotAFormula) ∷ [])) left [])
told_lacking true row column bad left e = refl
told_lacking false row column bad left e = absurd (true≢false (sym e))

lacks-mapped : (xs : List Sheet) (i : ℕ) → not (nat_lt i (length (map core_sheet xs))) ≡ is_none (slice_get xs i)
lacks-mapped xs i = elim (slice_get_cases xs i).1 [
  | inl x ↦ ap (λ (n : ℕ). not (nat_lt i n)) (length-map xs core_sheet) ∙ ap not (lt-ltb i (length xs) x.1) ∙ sym (ap (λ (o : Option Sheet). is_none o) x.2)
  | inr x ↦ ap (λ (n : ℕ). not (nat_lt i n)) (length-map xs core_sheet) ∙ ap not (past_end i (length xs) x.0) ∙ sym (ap (λ (o : Option Sheet). is_none o) x.1)
]

-- A write of the formula with this text, refused as no formula where the text of the command is none. ----

module _ (b : Book) (index : ℕ) (place : CellPlace) (text formula : List ℕ) where
  abbrev left : CoreBook
  left = record (core_of b) { sheets = updated_at (core.with_formula (notations_in b) (core_of b) place.0 place.1 (without_equals text)) index (core_of b).sheets }

  module _ (free : (s : Sheet) → slice_get b.sheets index ≡ Some s → IsFree s place) (is : is_formula_text text ≡ true → formula ≡ without_equals text) where
    found_told : (o : Option Sheet) → slice_get b.sheets index ≡ o
        → told_by
        (found_or InvalidSheet
        (option_map
        (λ s. unless_refused
        ((not (is_row place.0), InvalidRow) ∷ (not (is_column place.1), InvalidColumn) ∷ (is_covered s.grid.merges place, MergedPart) ∷ (is_fixed_at held s.grid.contents place, ArrayPart)
        ∷ (not (is_formula_text text), NotAFormula) ∷ [])
        (with_written b index s place (formula_written b s (formula_at_place b s place formula))) [])
        o))
        ≡ told_by_core (core.update_step (notations_in b) (core_of b) index place.0 place.1 text)
    found_told None e =
        told_lacking (lacks_sheet (core_of b) index) (not (is_row place.0)) (not (is_column place.1)) (not (is_formula_text text)) left (lacks-mapped b.sheets index ∙ ap is_none e)
    found_told (Some s) e =
        told_causes (lacks_sheet (core_of b) index) (not (is_row place.0)) (not (is_column place.1)) (is_covered s.grid.merges place) (is_fixed_at held s.grid.contents place)
        (not (is_formula_text text)) (with_written b index s place (formula_written b s (formula_at_place b s place formula))) left
        (lacks-mapped b.sheets index ∙ ap is_none e) (free s e).uncovered (free s e).loose
        (λ good.
        left_seen b index place formula s e (free s e).pooled
        ∙ ap
        (λ (t : List ℕ). let c : CoreBook = record (core_of b) { sheets = updated_at (core.with_formula (notations_in b) (core_of b) place.0 place.1 t) index (core_of b).sheets } in c)
        (is (not-false (is_formula_text text) good)))

    pub write_told : (bad : Bool) → bad ≡ not (is_formula_text text)
        → told_by (write_step b index place (λ s. formula_written b s (formula_at_place b s place formula)) ((bad, NotAFormula) ∷ []))
        ≡ told_by_core (core_step (notations_in b) (core_of b) (commands.UpdateCellWithFormula index place.0 place.1 text))
    unfolding core_step
    write_told bad same =
        ap (λ (t : Bool). told_by (write_step b index place (λ s. formula_written b s (formula_at_place b s place formula)) ((t, NotAFormula) ∷ []))) same
        ∙ found_told (slice_get b.sheets index) refl

-- What a text says as a formula. ----

picked : {A : Type 0} (first sign : Bool) (x y : A) (z : Option A) → sign ≡ false → cond first (Some x) (cond sign z None) ≡ cond first (Some (cond first x y)) None
picked true sign x y z e = refl
picked false true x y z e = absurd (true≢false e)
picked false false x y z e = refl

-- by a locale, where no sign begins it
formula_read : (l : Locale) (text : List ℕ) → begins_with_sign text ≡ false → formula_of l text ≡ cond (is_formula_text text) (Some (without_equals text)) None
unfolding formula_of
formula_read l [] e = refl
formula_read l (c ∷ []) e = refl
formula_read l (c ∷ d ∷ cs) e = picked (c == equals) (is_sign c) (d ∷ cs) (c ∷ d ∷ cs) _ e

by_some : (o : Option InForce) (text : List ℕ) → is_some o ≡ true → begins_with_sign text ≡ false
    → by_notation None (λ f. formula_of f.locale text) o ≡ cond (is_formula_text text) (Some (without_equals text)) None
by_some None text there e = absurd (true≢false (sym there))
by_some (Some f) text there e = formula_read f.locale text e

pub typed_formula : (b : Book) (text : List ℕ) → is_some (in_force b) ≡ true → begins_with_sign text ≡ false → formula_typed b text ≡ cond (is_formula_text text) (Some (without_equals text)) None
typed_formula b text there e = by_some (in_force b) text there e

none_if : {A : Type 0} (b : Bool) (x : A) → is_none (cond b (Some x) None) ≡ not b
none_if true x = refl
none_if false x = refl

some_if : {A : Type 0} (b : Bool) (x d : A) → b ≡ true → unwrap_or (cond b (Some x) None) d ≡ x
some_if true x d e = refl
some_if false x d e = absurd (true≢false (sym e))

-- the machine's command, where no sign begins its text
pub formula_told : (b : Book) (index : ℕ) (place : CellPlace) (text : List ℕ) → TakesFormula b index place → begins_with_sign text ≡ false
    → told_by (formula_step index place text b) ≡ told_by_core (core_step (notations_in b) (core_of b) (commands.UpdateCellWithFormula index place.0 place.1 text))
unfolding formula_step
formula_told b index place text takes plain =
    let read = typed_formula b text takes.read plain in
    write_told b index place text (unwrap_or (formula_typed b text) []) takes.free
    (λ good. ap (λ (o : Option (List ℕ)). unwrap_or o []) read ∙ some_if (is_formula_text text) (without_equals text) [] good)
    (is_none (formula_typed b text)) (ap (λ (o : Option (List ℕ)). is_none o) read ∙ none_if (is_formula_text text) (without_equals text))
