-- What the own text of a command stands for, and whether the command is refused.
use Rattle.std.proofs.Common.{◌≡◌, ℕ, ℤ, pos, List, Option, Some, None, IsSome, option_map, Ok, Err, refl, sym, ap, subst, ◌∙◌, rules}
use Rattle.std.specs.Prelude.{option_and_then}
use Rattle.std.specs.List.{slice_get}
use Rattle.std.proofs.lemmas.Option.{slice_get-map}
use Rattle.ic_laws.specs.CoreBook.{CellPlace, CoreBook}
use Rattle.ic_laws.specs.FormulaReading.{cell_formula}
use Rattle.ic_laws.specs.declared.tree.Formula.{Formula}
use Rattle.ic_input.specs.declared.input.Typed.{Typed}
use Rattle.ic_input.specs.declared.input.Typed.TheVariants as kinds
use Rattle.ic_grid.specs.Block.{first_place}
use Rattle.ic_grid.specs.declared.block.Block.{Block}
use Rattle.ic_machine.specs.Book as machine
use Rattle.ic_machine.specs.Book.{Stepped}
use Rattle.ic_machine.specs.Command.{Command, OnArrays, OnWriting}
use Rattle.ic_machine.specs.InForce.{formula_typed, typed_in}
use Rattle.ic_machine.specs.Refusal.{Refusal}
use Rattle.ic_machine.specs.Step.{step}
use Rattle.ic_machine.specs.Translation as translation
use Rattle.ic_machine.specs.Translation.{IsTypedSo, array_formula, cell_text, formula_in_cell, formula_of_typed, left_by, with_last}
use Rattle.ic_machine.specs.subjects.Arrays.{SetUserArrayFormula, array_step}
use Rattle.ic_machine.specs.subjects.Writing.{SetUserInput, UpdateCellWithFormula, formula_at_place, formula_step, input_step}
use Rattle.ic_sheets.specs.Sheet.{Sheet}
use Rattle.ic_parts.specs.Arrays.{after_equals, array_refusal}
use Rattle.ic_parts.specs.Book.{Book, IsValidBook, ModelState, notations_in, whole_of, whole_sheet}
use Rattle.ic_parts.specs.Does.{IsDone, Memory, Refused, WantedIn}
use Rattle.ic_parts.specs.Fields.{no_fields}
use Rattle.ic_parts.specs.Refused.{refusal_of}
use Rattle.ic_parts.specs.Translated.{IsToldOf, formula_own}
use Rattle.ic_parts.specs.Values.{typed_formula}
use Rattle.ic_parts.specs.Written.{value_refusal, written_formula}
use Rattle.ic_parts.specs.declared.error.BookError.{BookError}
use Rattle.ic_parts.specs.declared.error.BookError.TheVariants as errors
use Rattle.ic_parts.specs.declared.own_text.OwnText.{OwnText}
use Rattle.ic_parts.specs.declared.own_text.OwnText.TheVariants as owns
use Rattle.ic_parts.proofs.ArrayWritten.{array_does, array_no_formula, array_refused, body_is, sheet_found}
use Rattle.ic_changes.proofs.TypedSteps.{formula_told, input_told, input_wants, no_formula_told, some_formula}
use Rattle.ic_parts.proofs.ValueLemmas.{there_in}
use Rattle.ic_parts.proofs.WholeLemmas.{whole_core}
use Rattle.ic_parts.proofs.WholeWritten.{write_accepted}

-- Whether a step is refused, by what its call does. ----

pub left_done : (made : Stepped machine.Book) → IsDone made → IsSome (left_by made)
left_done (Ok done) h = search rules
left_done (Err refusal) h = absurd h

module _ (memory : Memory) (made : Stepped machine.Book) (old new : ModelState) where
  gone_by : (o : Option Refusal) (r : Refusal) → o ≡ Some r → Refused memory made old new o → left_by made ≡ None
  gone_by None r e h = cc
  gone_by (Some q) r e h = ap left_by h.0

  -- an error that tells a refusal
  pub gone_told : (e : BookError) (r : Refusal) → refusal_of e ≡ Some r → Refused memory made old new (refusal_of e) → left_by made ≡ None
  gone_told e r is h = gone_by (refusal_of e) r is h

-- A text that is typed. ----

value_formula : (t : Typed) → typed_formula t ≡ None → formula_of_typed t ≡ None
value_formula kinds.Empty e = refl
value_formula (kinds.Quoted text) e = refl
value_formula (kinds.Formula text) e = cc
value_formula (kinds.Number v code) e = refl
value_formula (kinds.Boolean truth) e = refl
value_formula (kinds.Error it) e = refl
value_formula (kinds.Text text) e = refl

value_typed : (target : machine.Book) (place : CellPlace) (formula : Option Formula) (t : Typed) (text : List ℕ) → typed_formula t ≡ None → IsTypedSo target (pos 1, pos 1) None t text → IsTypedSo target place formula t text
value_typed target place formula kinds.Empty text e h = h
value_typed target place formula (kinds.Quoted quoted) text e h = h
value_typed target place formula (kinds.Formula body) text e h = cc
value_typed target place formula (kinds.Number v code) text e h = h
value_typed target place formula (kinds.Boolean truth) text e h = h
value_typed target place formula (kinds.Error it) text e h = h
value_typed target place formula (kinds.Text words) text e h = h

formula_typed_is : (t : Typed) (body : List ℕ) → typed_formula t ≡ Some body → t ≡ kinds.Formula body
formula_typed_is kinds.Empty body e = cc
formula_typed_is (kinds.Quoted text) body e = cc
formula_typed_is (kinds.Formula text) body e = let same : text ≡ body = cc in ap (λ (x : List ℕ). kinds.Formula x) same
formula_typed_is (kinds.Number v code) body e = cc
formula_typed_is (kinds.Boolean truth) body e = cc
formula_typed_is (kinds.Error it) body e = cc
formula_typed_is (kinds.Text text) body e = cc

-- the formula of a body in a cell of a sheet that is there
module _ (book : Book) (index : ℕ) (place : CellPlace) (body : List ℕ) (s : Sheet) (at : slice_get book.sheets index ≡ Some s) where
  formula_there : formula_in_cell (whole_of book) index place body ≡ Some (written_formula book s place body)
  formula_there =
      ap (option_map (λ (sheet : machine.Sheet). formula_at_place (whole_of book) sheet place body)) (slice_get-map (whole_sheet book.strings) book.sheets index ∙ ap (option_map (whole_sheet book.strings)) at)
      ∙ ap (λ (c : CoreBook). let o : Option Formula = Some (cell_formula (notations_in book) c s.id place.0 place.1 body) in o) (whole_core book)

  own_there : formula_own book index place.0 place.1 body ≡ Some (owns.Formula place.0 place.1 (written_formula book s place body))
  own_there = ap (option_map (λ (s : Sheet). owns.Formula place.0 place.1 (written_formula book s place body))) at

module _ (old : ModelState) (valid : IsValidBook old.book) (index : ℕ) (row column : ℤ) (text : List ℕ) where
  abbrev whole : machine.Book
  whole = whole_of old.book

  abbrev its_input : Command
  its_input = OnWriting (SetUserInput index row column text)

  pub input_gone : (e : BookError) → (r : Refusal) × (refusal_of e ≡ Some r) × (value_refusal old.book index row column ≡ Some r) → left_by (step (whole_of old.book) (OnWriting (SetUserInput index row column text))) ≡ None
  input_gone e t = gone_told WantedIn (input_step index (row, column) text whole) old old e t.0 t.1 (input_told old valid index row column text no_fields e t).done

  module _ (none : value_refusal old.book index row column ≡ None) where
    input_left : IsSome (left_by (step (whole_of old.book) (OnWriting (SetUserInput index row column text))))
    input_left = left_done (input_step index (row, column) text whole) (input_wants old valid index row column text no_fields none errors.OutOfMemory refl).done.0

    -- a typed text that is no formula
    pub value_told : (t : Typed) → t ≡ typed_in (whole_of old.book) text → typed_formula t ≡ None → IsToldOf (whole_of old.book) (OnWriting (SetUserInput index row column text)) (Some (owns.Value t))
    value_told t is lacks = (
      record {
        formula = ap (λ (u : Typed). option_and_then (formula_in_cell whole index (row, column)) (formula_of_typed u)) (sym is) ∙ ap (option_and_then (formula_in_cell whole index (row, column))) (value_formula t lacks);
        texts = λ target texts s so. (s, (refl, subst (λ (u : Typed). IsTypedSo target (row, column) (translation.written_formula whole (SetUserInput index row column text)) u s) is (value_typed target (row, column) _ t s lacks so)));
      },
      input_left,
    )

    -- and one that is a formula
    pub input_formula : (t : Typed) → t ≡ typed_in (whole_of old.book) text → (body : List ℕ) → typed_formula t ≡ Some body → (own : Option OwnText) → own ≡ formula_own old.book index row column body
        → IsToldOf (whole_of old.book) (OnWriting (SetUserInput index row column text)) own
    input_formula t is body some own made =
        let there = there_in (row, column) (slice_get old.book.sheets index) none in
        let typed : typed_in whole text ≡ kinds.Formula body = sym is ∙ formula_typed_is t body some in
        let its : translation.written_formula whole (SetUserInput index row column text) ≡ Some (written_formula old.book there.0 (row, column) body) =
        ap (λ (u : Typed). option_and_then (formula_in_cell whole index (row, column)) (formula_of_typed u)) typed ∙ formula_there old.book index (row, column) body there.0 there.1 in
        subst (IsToldOf whole its_input) (sym (made ∙ own_there old.book index (row, column) body there.0 there.1)) (
          record {
            formula = its;
            texts = λ target texts s so. (s, (refl, subst (λ (u : Typed). IsTypedSo target (row, column) (translation.written_formula whole (SetUserInput index row column text)) u s) (sym typed) (so ∙ sym (ap (cell_text target (row, column)) its))));
          },
          input_left,
        )

  -- A text that is written as a formula. ----

  abbrev its_write : Command
  its_write = OnWriting (UpdateCellWithFormula index row column text)

  pub write_gone : (e : BookError) → (r : Refusal) × (refusal_of e ≡ Some r) × (value_refusal old.book index row column ≡ Some r) → left_by (step (whole_of old.book) (OnWriting (UpdateCellWithFormula index row column text))) ≡ None
  write_gone e t = gone_told WantedIn (formula_step index (row, column) text whole) old old e t.0 t.1 (formula_told old valid index (row, column) text no_fields e t).done

  pub untyped_gone : value_refusal old.book index row column ≡ None → formula_typed (whole_of old.book) text ≡ None → left_by (step (whole_of old.book) (OnWriting (UpdateCellWithFormula index row column text))) ≡ None
  untyped_gone none lacks = ap left_by (no_formula_told old valid index (row, column) text no_fields lacks none).done.0

  pub write_formula : value_refusal old.book index row column ≡ None → (body : List ℕ) → formula_typed (whole_of old.book) text ≡ Some body → (own : Option OwnText) → own ≡ formula_own old.book index row column body
      → IsToldOf (whole_of old.book) (OnWriting (UpdateCellWithFormula index row column text)) own
  write_formula none body typed own made =
      let there = there_in (row, column) (slice_get old.book.sheets index) none in
      let its : translation.written_formula whole (UpdateCellWithFormula index row column text) ≡ Some (written_formula old.book there.0 (row, column) body) =
      ap (option_and_then (formula_in_cell whole index (row, column))) typed ∙ formula_there old.book index (row, column) body there.0 there.1 in
      subst (IsToldOf whole its_write) (sym (made ∙ own_there old.book index (row, column) body there.0 there.1)) (
        record { formula = its; texts = λ target texts s so. ap (λ (t : List ℕ). with_last t texts) (so ∙ sym (ap (cell_text target (row, column)) its)) },
        left_done (formula_step index (row, column) text whole) (subst IsDone (some_formula old.book index (row, column) text body typed) (write_accepted old.book valid index (row, column) body none)),
      )

-- An array formula. ----

module _ (old : ModelState) (valid : IsValidBook old.book) (index : ℕ) (b : Block) (text : List ℕ) where
  abbrev its_book : machine.Book
  its_book = whole_of old.book

  abbrev its_array : Command
  its_array = OnArrays (SetUserArrayFormula index b text)

  pub array_gone : (e : BookError) → (r : Refusal) × (refusal_of e ≡ Some r) × (array_refusal old.book index b ≡ Some r) → left_by (step (whole_of old.book) (OnArrays (SetUserArrayFormula index b text))) ≡ None
  array_gone e t = gone_told WantedIn (array_step index b text its_book) old old e t.0 t.1 (array_refused old valid index b text e t.0 t.1 t.2).done

  pub bodiless_gone : array_refusal old.book index b ≡ None → after_equals text ≡ None → left_by (step (whole_of old.book) (OnArrays (SetUserArrayFormula index b text))) ≡ None
  bodiless_gone none lacks = ap left_by (array_no_formula old valid index b text none lacks).done.0

  pub array_own : array_refusal old.book index b ≡ None → (body : List ℕ) → after_equals text ≡ Some body → (own : Option OwnText) → own ≡ formula_own old.book index (first_place b).0 (first_place b).1 body
      → IsToldOf (whole_of old.book) (OnArrays (SetUserArrayFormula index b text)) own
  array_own none body typed own made =
      let there = sheet_found b (slice_get old.book.sheets index) none in
      let its : array_formula its_book (SetUserArrayFormula index b text) ≡ Some (written_formula old.book there.0 (first_place b) body) =
      ap (formula_in_cell its_book index (first_place b)) (body_is text body typed).1 ∙ formula_there old.book index (first_place b) body there.0 there.1 in
      subst (IsToldOf its_book its_array) (sym (made ∙ own_there old.book index (first_place b) body there.0 there.1)) (
        record { formula = its; texts = λ target texts s so. ap (λ (t : List ℕ). with_last t texts) (so ∙ sym (ap (cell_text target (first_place b)) its)) },
        left_done (array_step index b text its_book) (array_does old valid index b text none old body typed (Err errors.OutOfMemory) tt refl refl).done.0,
      )
