-- What a typed text writes, as the machine does it, by what the text is; and a text that is written as a formula.
use Rattle.std.proofs.Common.{◌≡◌, ℕ, ℤ, ◌++◌, List, [], ◌∷◌, Bool, true, false, not, Option, Some, None, option_map, Result, Ok, Err, OnErr, OnOk, inr, refl, sym, ap, subst, ◌∙◌}
use Rattle.std.specs.Prelude.{is_none, unwrap_or}
use Rattle.std.specs.List.{slice_get}
use Rattle.std.proofs.lemmas.Option.{slice_get-map}
use Rattle.ic_laws.specs.CoreBook.{CellPlace}
use Rattle.ic_laws.specs.CoreStep.{updated_at}
use Rattle.ic_laws.specs.Position.{is_column, is_row}
use Rattle.ic_grid.specs.Arrays.{is_fixed_at}
use Rattle.ic_grid.specs.Merges.{is_covered}
use Rattle.ic_grid.specs.Shape.{celled}
use Rattle.ic_input.specs.declared.input.Typed.{Typed}
use Rattle.ic_input.specs.declared.input.Typed.TheVariants as kinds
use Rattle.ic_machine.proofs.contents.AlikeGrid.{is_fixed_at-seen}
use Rattle.ic_machine.proofs.contents.AlikeLemmas.{cells_are_contents}
use Rattle.ic_machine.specs.Book as machine
use Rattle.ic_machine.specs.Book.{Stepped, found_or, unless}
use Rattle.ic_machine.specs.Content.{content_of, held}
use Rattle.ic_machine.specs.InForce.{formula_typed, typed_in}
use Rattle.ic_machine.specs.Refusal.{ArrayPart, InvalidColumn, InvalidRow, InvalidSheet, MergedPart, NotAFormula, Refusal, first_refusal}
use Rattle.ic_machine.specs.Reply.{Field}
use Rattle.ic_machine.specs.subjects.Writing.{Written, formula_at_place, formula_step, formula_written, input_step, place_causes, typed_written, with_written, write_causes, write_step}
use Rattle.ic_sheets.specs.Sheet.{Sheet}
use Rattle.ic_parts.specs.Book.{Book, IsValidBook, ModelState, whole_of, whole_sheet}
use Rattle.ic_parts.specs.Does.{DoesStep, IsDone, Refused, Wanted, WantedIn}
use Rattle.ic_changes.specs.LookUps.{LooksUpAsBefore}
use Rattle.ic_parts.specs.Refused.{refusal_of}
use Rattle.ic_parts.specs.Values.{put_step, typed_change, typed_content, typed_formula, typed_step}
use Rattle.ic_parts.specs.Written.{put_formula_step, value_causes, value_refusal, value_refusal_in}
use Rattle.ic_parts.specs.declared.error.BookError.{BookError}
use Rattle.ic_parts.specs.declared.error.BookError.TheVariants as errors
use Rattle.ic_parts.proofs.ValueLemmas.{step_accepted, step_refused, there_in}

-- What a text is typed as decides. ----

pub input_is : (book : machine.Book) (index : ℕ) (row column : ℤ) (text : List ℕ) (t : Typed) → t ≡ typed_in book text → typed_step book index row column t ≡ input_step index (row, column) text book
unfolding input_step
input_is book index row column text t e = ap (λ (u : Typed). typed_step book index row column u) e

-- a formula's step, and that of anything else
module _ (book : machine.Book) (index : ℕ) (row column : ℤ) where
  pub formula_put : (t : Typed) (body : List ℕ) → typed_formula t ≡ Some body → put_formula_step book index (row, column) body ≡ typed_step book index row column t
  formula_put kinds.Empty body e = cc
  formula_put (kinds.Quoted text) body e = cc
  formula_put (kinds.Formula text) body e = let same : text ≡ body = cc in sym (ap (put_formula_step book index (row, column)) same)
  formula_put (kinds.Number amount code) body e = cc
  formula_put (kinds.Boolean truth) body e = cc
  formula_put (kinds.Error it) body e = cc
  formula_put (kinds.Text text) body e = cc

  pub other_put : (t : Typed) → typed_formula t ≡ None → put_step book index row column (typed_change t) (typed_content t) ≡ typed_step book index row column t
  other_put kinds.Empty e = refl
  other_put (kinds.Quoted text) e = refl
  other_put (kinds.Formula text) e = cc
  other_put (kinds.Number amount code) e = refl
  other_put (kinds.Boolean truth) e = refl
  other_put (kinds.Error it) e = refl
  other_put (kinds.Text text) e = refl

-- A call that keeps all that a model is where memory runs out keeps the book. ----

module _ {T : Type 0} (made : Stepped machine.Book) (fields : T → List Field) (old new : ModelState) where
  wanted : (o : Option Refusal) → Refused Wanted made old new o → Refused WantedIn made old new o
  wanted None h = (h.0, ap (λ (m : ModelState). m.book) h.1)
  wanted (Some r) h = h

  pub wanted_in : (result : Result T BookError) → DoesStep Wanted made fields result old new → DoesStep WantedIn made fields result old new
  wanted_in (Ok x) d = record { done = d.done; before = d.before; after = d.after }
  wanted_in (Err e) d = record { done = wanted (refusal_of e) d.done; before = d.before; after = d.after }

-- A text that is written as a formula. ----

first_told : (a b c d e : Bool) (r : Refusal) → first_refusal ((not a, InvalidRow) ∷ (not b, InvalidColumn) ∷ (c, MergedPart) ∷ (d, ArrayPart) ∷ []) ≡ Some r
    → first_refusal ((not a, InvalidRow) ∷ (not b, InvalidColumn) ∷ (c, MergedPart) ∷ (d, ArrayPart) ∷ (e, NotAFormula) ∷ []) ≡ Some r
first_told false b c d e r h = h
first_told true false c d e r h = h
first_told true true true d e r h = h
first_told true true false true e r h = h
first_told true true false false e r h = cc

last_told : (a b c d : Bool) → first_refusal ((not a, InvalidRow) ∷ (not b, InvalidColumn) ∷ (c, MergedPart) ∷ (d, ArrayPart) ∷ []) ≡ None
    → first_refusal ((not a, InvalidRow) ∷ (not b, InvalidColumn) ∷ (c, MergedPart) ∷ (d, ArrayPart) ∷ (true, NotAFormula) ∷ []) ≡ Some NotAFormula
last_told false b c d h = cc
last_told true false c d h = cc
last_told true true true d h = cc
last_told true true false true h = cc
last_told true true false false h = refl

module _ (book : Book) (index : ℕ) (place : CellPlace) (text : List ℕ) where
  abbrev whole : machine.Book
  whole = whole_of book

  abbrev seen : Sheet → machine.Sheet
  seen s = whole_sheet book.strings s

  by_formula : Option (List ℕ) → Stepped machine.Book
  by_formula o = write_step whole index place (λ sheet. formula_written whole sheet (formula_at_place whole sheet place (unwrap_or o []))) ((is_none o, NotAFormula) ∷ [])

  step_at : Option (List ℕ) → Option machine.Sheet → Stepped machine.Book
  step_at typed o =
      found_or InvalidSheet (option_map (λ sheet. unless (first_refusal (place_causes place ++ (write_causes sheet place ++ ((is_none typed, NotAFormula) ∷ []))))
      (with_written whole index sheet place (formula_written whole sheet (formula_at_place whole sheet place (unwrap_or typed [])))) []) o)

  step_is : (typed : Option (List ℕ)) → by_formula typed ≡ step_at typed (option_map seen (slice_get book.sheets index))
  unfolding by_formula step_at
  step_is typed = ap (step_at typed) (slice_get-map seen book.sheets index)

  formula_is : formula_step index place text whole ≡ by_formula (formula_typed whole text)
  unfolding formula_step by_formula
  formula_is = refl

  fixed_seen : (bad : Bool) (s : Sheet) → first_refusal (place_causes place ++ (write_causes (seen s) place ++ ((bad, NotAFormula) ∷ [])))
      ≡ first_refusal ((not (is_row place.0), InvalidRow) ∷ (not (is_column place.1), InvalidColumn) ∷ (is_covered s.grid.merged_cells place, MergedPart) ∷ (is_fixed_at celled s.grid.cells place, ArrayPart) ∷ (bad, NotAFormula) ∷ [])
  fixed_seen bad s =
      ap (λ (fixed : Bool). first_refusal ((not (is_row place.0), InvalidRow) ∷ (not (is_column place.1), InvalidColumn) ∷ (is_covered s.grid.merged_cells place, MergedPart) ∷ (fixed, ArrayPart) ∷ (bad, NotAFormula) ∷ []))
      (is_fixed_at-seen (content_of book.strings) celled held (cells_are_contents book.strings) s.grid.cells place)

  left_at : Option (List ℕ) → Sheet → machine.Book
  left_at typed s = with_written whole index (seen s) place (formula_written whole (seen s) (formula_at_place whole (seen s) place (unwrap_or typed [])))

  told : (typed : Option (List ℕ)) (o : Option Sheet) (r : Refusal) → value_refusal_in place o ≡ Some r → step_at typed (option_map seen o) ≡ Err r
  unfolding step_at left_at
  told typed None r e = let is : InvalidSheet ≡ r = cc in ap (λ (x : Refusal). let made : Stepped machine.Book = Err x in made) is
  told typed (Some s) r e =
      ap (λ o. unless o (left_at typed s) [])
      (fixed_seen (is_none typed) s ∙ first_told (is_row place.0) (is_column place.1) (is_covered s.grid.merged_cells place) (is_fixed_at celled s.grid.cells place) (is_none typed) r e)

  none_told : (s : Sheet) → first_refusal (value_causes s.grid place) ≡ None → step_at None (Some (seen s)) ≡ Err NotAFormula
  unfolding step_at left_at
  none_told s e =
      ap (λ o. unless o (left_at None s) [])
      (fixed_seen true s ∙ last_told (is_row place.0) (is_column place.1) (is_covered s.grid.merged_cells place) (is_fixed_at celled s.grid.cells place) e)

  -- it is refused where a value is
  pub formula_refused : (r : Refusal) → value_refusal book index place.0 place.1 ≡ Some r → formula_step index place text (whole_of book) ≡ Err r
  formula_refused r e = formula_is ∙ step_is (formula_typed whole text) ∙ told (formula_typed whole text) (slice_get book.sheets index) r e

  -- and where it has no formula
  pub no_formula : formula_typed (whole_of book) text ≡ None → value_refusal book index place.0 place.1 ≡ None → formula_step index place text (whole_of book) ≡ Err NotAFormula
  no_formula typed e =
      let found = there_in place (slice_get book.sheets index) e in
      formula_is ∙ ap by_formula typed ∙ step_is None ∙ ap (λ o. step_at None (option_map seen o)) found.1 ∙ none_told found.0 found.2

  -- else its formula is written
  pub some_formula : (body : List ℕ) → formula_typed (whole_of book) text ≡ Some body → put_formula_step (whole_of book) index place body ≡ formula_step index place text (whole_of book)
  unfolding by_formula
  some_formula body typed = sym (formula_is ∙ ap by_formula typed)

-- What the call does where it is refused. ----

module _ (old : ModelState) (valid : IsValidBook old.book) (index : ℕ) (place : CellPlace) (text : List ℕ) (fields : Unit {0} → List Field) where
  pub formula_told : (e : BookError) → (r : Refusal) × (refusal_of e ≡ Some r) × (value_refusal old.book index place.0 place.1 ≡ Some r) → DoesStep WantedIn (formula_step index place text (whole_of old.book)) fields (Err e) old old
  formula_told e t = record {
    done = subst (Refused WantedIn (formula_step index place text (whole_of old.book)) old old) (sym t.1) (formula_refused old.book index place text t.0 t.2, refl);
    before = valid;
    after = valid;
  }

  pub no_formula_told : formula_typed (whole_of old.book) text ≡ None → value_refusal old.book index place.0 place.1 ≡ None → DoesStep WantedIn (formula_step index place text (whole_of old.book)) fields (Err errors.NotAFormula) old old
  no_formula_told typed none = record {
    done = (no_formula old.book index place text typed none, refl);
    before = valid;
    after = valid;
  }

-- the same of a text that is typed
module _ (old : ModelState) (valid : IsValidBook old.book) (index : ℕ) (row column : ℤ) (text : List ℕ) (fields : Unit {0} → List Field) where
  abbrev its_step : Stepped machine.Book
  its_step = input_step index (row, column) text (whole_of old.book)

  abbrev typed_there : machine.Sheet → Written
  typed_there sheet = typed_written (whole_of old.book) sheet (row, column) (typed_in (whole_of old.book) text)

  input_refused : (r : Refusal) → value_refusal old.book index row column ≡ Some r → its_step ≡ Err r
  unfolding input_step
  input_refused r e = step_refused old.book index row column typed_there r e

  input_accepted : value_refusal old.book index row column ≡ None → IsDone its_step
  unfolding input_step
  input_accepted e = step_accepted old.book index row column typed_there e

  pub input_told : (e : BookError) → (r : Refusal) × (refusal_of e ≡ Some r) × (value_refusal old.book index row column ≡ Some r) → DoesStep WantedIn (input_step index (row, column) text (whole_of old.book)) fields (Err e) old old
  input_told e t = record {
    done = subst (Refused WantedIn its_step old old) (sym t.1) (input_refused t.0 t.2, refl);
    before = valid;
    after = valid;
  }

  pub input_wants : value_refusal old.book index row column ≡ None → (e : BookError) → e ≡ errors.OutOfMemory → DoesStep WantedIn (input_step index (row, column) text (whole_of old.book)) fields (Err e) old old
  input_wants none e out = record {
    done = subst (Refused WantedIn its_step old old) (sym (ap refusal_of out)) (input_accepted none, refl);
    before = valid;
    after = valid;
  }

-- the look-up of a sheet may be there after a call that writes a formula
pub either_look_up : (result : Result (Unit {0}) BookError) (index : ℕ) (old new : ModelState) → OnOk result (new.has_all ≡ updated_at (λ b. true) index old.has_all) → OnErr result (LooksUpAsBefore index old new) → LooksUpAsBefore index old new
either_look_up (Ok done) index old new ok err = inr ok
either_look_up (Err e) index old new ok err = err
