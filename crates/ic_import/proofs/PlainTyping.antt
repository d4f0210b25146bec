-- Typing into a book without merged cells and arrays of several cells: no field is refused, and the book stays so.
use Rattle.std.proofs.Common.{◌≡◌, ◌<◌, ℕ, List, [], ◌∷◌, ◌++◌, Bool, true, false, cond, not, Option, Some, None, Ok, slice_get, length, chars, refl, sym, ap, subst, ◌∙◌, arith}
use Rattle.std.proofs.lemmas.Bool.{and_parts as both_true}
use Rattle.ic_laws.proofs.core.Lists.{all_updated, length_updated}
use Rattle.ic_laws.specs.CoreBook.{CellPlace}
use Rattle.ic_laws.specs.Position.{is_column, is_row}
use Rattle.ic_input.specs.declared.input.Typed.{Typed}
use Rattle.ic_input.specs.declared.input.Typed.TheVariants as kinds
use Rattle.ic_grid.specs.Shape.{is_loose}
use Rattle.ic_machine.proofs.valid.ValidLemmas.{all_at}
use Rattle.ic_machine.specs.Book.{Book, Sheet, style_number_at, unless_refused}
use Rattle.ic_machine.specs.Content.{shape_of}
use Rattle.ic_machine.specs.InForce.{typed_in}
use Rattle.ic_machine.specs.Placed.{index_in_pool, is_dynamic}
use Rattle.ic_machine.specs.Styling.{restyled}
use Rattle.ic_machine.specs.subjects.Writing.{Written, formula_at_place, input_step, place_causes, typed_written, with_content, with_written, write_causes}
use Rattle.ic_run.proofs.PlainLemmas.{loose_formula, none_fixed, written_plain}
use Rattle.ic_run.specs.Core.{IsPlain, IsPlainBook}
use Rattle.ic_import.specs.Placed.{first_outside, is_in_sheet, place_of}
use Rattle.ic_import.specs.Records.{Field}
use Rattle.ic_import.specs.Typed.{go_on, type_field, typed}

-- What a typed text puts into a cell is no array of several cells. ----

loose_typed : (b : Book) (s : Sheet) (place : CellPlace) (t : Typed) (style : ℕ) → is_loose (shape_of ((typed_written b s place t).content style)) ≡ true
loose_typed b s place kinds.Empty style = refl
loose_typed b s place (kinds.Quoted text) style = refl
loose_typed b s place (kinds.Formula text) style =
    let formula = formula_at_place b s place text in loose_formula (is_dynamic b.tables.kinds formula) (index_in_pool formula s.pool) style
loose_typed b s place (kinds.Number amount code) style = refl
loose_typed b s place (kinds.Boolean truth) style = refl
loose_typed b s place (kinds.Error e) style = refl
loose_typed b s place (kinds.Text text) style = refl

-- A field that is typed into the first sheet, at a place of it. ----

-- there is a first sheet
first_sheet : (sheets : List Sheet) → 0 < length sheets → (s : Sheet) × (slice_get sheets 0 ≡ Some s)
first_sheet [] h = absurd (omega arith)
first_sheet (s ∷ sheets) h = (s, refl)

-- it isn't refused, and leaves such a book
record Goes (at : CellPlace) (field : Field) (b : Book) : Type 0 where
  left : Book
  step : type_field 0 at field b ≡ Ok (left, [])
  plain : IsPlainBook left
  some : 0 < length left.sheets

goes : (at : CellPlace) (field : Field) (b : Book) → IsPlainBook b → 0 < length b.sheets → is_in_sheet (place_of at field) ≡ true → Goes at field b
unfolding input_step
goes at field b plain some inside =
    let place = place_of at field in
    let found = first_sheet b.sheets some in
    let s = found.0 in
    let w : Written = typed_written b s place (typed_in b (chars field.bytes)) in
    let number : ℕ = (restyled w.change (style_number_at s.grid place.0 place.1) b.styles).number in
    let its : IsPlain s.grid = all_at (λ (s : Sheet). IsPlain s.grid) 0 b.sheets s plain found.1 in
    let free = both_true (is_row place.0) (is_column place.1) inside in
    let allowed : unless_refused (place_causes place ++ (write_causes s place ++ [])) (with_written b 0 s place w) [] ≡ Ok (with_written b 0 s place w, []) = rw (free.0, free.1, its.merges, none_fixed s.grid its place) refl in
    record {
      left = with_written b 0 s place w;
      step = rw found.1 allowed;
      plain = all_updated (λ (s : Sheet). IsPlain s.grid) (λ old. with_content place w.pool (w.content number) s) (λ old h. written_plain s.grid place (w.content number) (loose_typed b s place (typed_in b (chars field.bytes)) number) its) 0 b.sheets plain;
      some = subst (λ (n : ℕ). 0 < n) (sym (length_updated (λ old. with_content place w.pool (w.content number) s) 0 b.sheets)) some;
    }

-- where no field is outside, all are typed
head_inside : (at : CellPlace) (field : Field) (fields : List Field) → first_outside at (field ∷ fields) ≡ None → (is_in_sheet (place_of at field) ≡ true) × (first_outside at fields ≡ None)
head_inside at field fields e = by (is_in_sheet (place_of at field)) refl e
  where
    by : (b : Bool) → is_in_sheet (place_of at field) ≡ b → (let o : Option Field = cond (not b) (Some field) (first_outside at fields) in o ≡ None) → (is_in_sheet (place_of at field) ≡ true) × (first_outside at fields ≡ None)
    by true is e = (is, e)
    by false is e = cc

pub all_typed : (at : CellPlace) (fields : List Field) (b : Book) → IsPlainBook b → 0 < length b.sheets → first_outside at fields ≡ None → (left : Book) × (typed 0 at fields b ≡ Ok left)
all_typed at [] b plain some e = (b, refl)
all_typed at (field ∷ fields) b plain some e =
    let head = head_inside at field fields e in
    let next = goes at field b plain some head.0 in
    let more = all_typed at fields next.left next.plain next.some head.1 in
    (more.0, ap (go_on field (typed 0 at fields)) next.step ∙ more.1)
