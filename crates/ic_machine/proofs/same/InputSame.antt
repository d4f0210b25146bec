-- What is typed in another notation for what was typed leaves the same.
use Rattle.std.proofs.Common.{◌≡◌, ℕ, ℤ, List, [], ◌∷◌, Bool, true, false, cond, Some, None, Ok, refl, sym, ap, subst, ◌∙◌}
use Rattle.std.proofs.lemmas.Bool.{and_from}
use Rattle.std.specs.List.{slice_get}
use Rattle.std.specs.Prelude.{option_and_then, option_map}
use Rattle.ic_laws.specs.Character.{equals, quote}
use Rattle.ic_laws.specs.CoreBook.{CellPlace}
use Rattle.ic_laws.specs.Notations.{is_cell}
use Rattle.ic_laws.specs.declared.tree.Formula.{Formula}
use Rattle.ic_input.specs.declared.input.Typed.{Typed}
use Rattle.ic_input.specs.declared.input.Typed.TheVariants as kinds
use Rattle.ic_machine.specs.Book.{Book, Sheet, scene_in}
use Rattle.ic_machine.specs.Command.{OnWriting}
use Rattle.ic_machine.specs.InForce.{is_text, shown_words, typed_in}
use Rattle.ic_machine.specs.Reply.{Field}
use Rattle.ic_machine.specs.Same.{IsSameBook, IsSameSheet}
use Rattle.ic_machine.specs.Step.{step}
use Rattle.ic_machine.specs.Translation.{IsTypedSo, cell_text, formula_in_cell, formula_of_typed, in_notation, why_not, written_formula}
use Rattle.ic_machine.specs.TranslationLaws.{InputIsSame, IsWritable, LeavesSame}
use Rattle.ic_machine.specs.Valid.{IsValidBook}
use Rattle.ic_machine.specs.subjects.Writing as writing
use Rattle.ic_machine.specs.subjects.Writing.{formula_at_place, input_step, typed_written, with_content}
use Rattle.ic_machine.proofs.valid.BesideLemmas.{twin_valid}
use Rattle.ic_machine.proofs.same.FormulaSame.{formula_again, target, texts_same, typed_there}
use Rattle.ic_machine.proofs.valid.RetypedLemmas.{empty_typed, number_told, quoted_typed, same_text}
use Rattle.ic_machine.proofs.bound.SceneLemmas.{placed}
use Rattle.ic_machine.proofs.same.WritingSame.{WritesSame, write_again}

module _ (b c : Book) (valid : IsValidBook b) (valid_there : IsValidBook (in_notation c.locale c.language b)) (same : IsSameBook b c) (left : Book) (tables : left.tables ≡ c.tables) (names : scene_in left ≡ scene_in b)
    (index : ℕ) (s t : Sheet) (at : slice_get b.sheets index ≡ Some s) (there : slice_get c.sheets index ≡ Some t) (sheets : IsSameSheet s t) (place : CellPlace) (cell : is_cell place.0 place.1 ≡ true) (new : List ℕ) where
  abbrev Same : Typed → Typed → Type 0
  Same one other = WritesSame (typed_written b s place one) (typed_written c t place other)

  -- the book itself in the other notation, where the same is typed
  abbrev twin : Book
  twin = in_notation c.locale c.language b

  typed_c : (text : List ℕ) → typed_in twin text ≡ typed_in c text
  typed_c text = typed_there c b same.tables text

  -- as the new text is typed
  retold : (one other : Typed) → typed_in c new ≡ other → Same one other → Same one (typed_in c new)
  retold one other e h = subst (Same one) (sym e) h

  -- a text with a quote before it, or without one
  words_same : (words : List ℕ) (test : Bool) → is_text (typed_in c words) ≡ test → Same (kinds.Text words) (typed_in c (cond test words (quote ∷ words)))
  words_same words true e = subst (Same (kinds.Text words)) (sym (sym (typed_c words) ∙ same_text twin valid_there words (ap is_text (typed_c words) ∙ e))) (record { content = λ m n. refl; pool = sheets.pool })
  words_same words false e = subst (Same (kinds.Text words)) (sym (sym (typed_c (quote ∷ words)) ∙ quoted_typed twin valid_there words)) (record { content = λ m n. refl; pool = sheets.pool })

  -- what the new text is, by what was typed
  pub typed_same : (typed : Typed) → option_and_then (why_not (in_notation c.locale c.language b)) (option_and_then (formula_in_cell b index place) (formula_of_typed typed)) ≡ None
      → IsTypedSo (target c left tables) place (option_and_then (formula_in_cell b index place) (formula_of_typed typed)) typed new → Same typed (typed_in c new)
  typed_same kinds.Empty writable so = retold kinds.Empty kinds.Empty (ap (typed_in c) so ∙ (sym (typed_c []) ∙ empty_typed twin valid_there)) (record { content = λ m n. refl; pool = sheets.pool })
  typed_same (kinds.Quoted text) writable so =
      retold (kinds.Quoted text) (kinds.Quoted text) (ap (typed_in c) so ∙ (sym (typed_c (quote ∷ text)) ∙ quoted_typed twin valid_there text)) (record { content = λ m n. refl; pool = sheets.pool })
  typed_same (kinds.Formula body) writable so =
      let formula : Formula = formula_at_place b s place body in
      let is : formula_in_cell b index place body ≡ Some formula = ap (option_map (λ (sheet : Sheet). formula_at_place b sheet place body)) at in
      let again = formula_again b c valid valid_there same left tables names index s t at there sheets place cell body
      (ap (option_and_then (why_not (in_notation c.locale c.language b))) (sym is) ∙ writable) in
      let new_is : new ≡ equals ∷ again.shown = so ∙ ap (cell_text (in_notation c.locale c.language left) place) is ∙ again.text in
      retold (kinds.Formula body) (kinds.Formula again.shown) (ap (typed_in c) new_is ∙ again.typed) (texts_same b c same.tables s t sheets.pool _ _ formula refl again.reads)
  typed_same (kinds.Number v code) writable so =
      let told = number_told v (typed_in (target c left tables) new) so in
      retold (kinds.Number v code) (kinds.Number v told.0) (sym (typed_there c left tables new) ∙ told.1) (record { content = λ m n. refl; pool = sheets.pool })
  typed_same (kinds.Boolean truth) writable so =
      retold (kinds.Boolean truth) (kinds.Boolean truth) (sym (typed_there c left tables new) ∙ so) (record { content = λ m n. refl; pool = sheets.pool })
  typed_same (kinds.Error e) writable so =
      retold (kinds.Error e) (kinds.Error e) (sym (typed_there c left tables new) ∙ so) (record { content = λ m n. refl; pool = sheets.pool })
  typed_same (kinds.Text words) writable so =
      let words_there : shown_words (target c left tables) words ≡ shown_words c words = ap (λ (typed : Typed). cond (is_text typed) words (quote ∷ words)) (typed_there c left tables words) in
      subst (λ (text : List ℕ). Same (kinds.Text words) (typed_in c text)) (sym (so ∙ words_there)) (words_same words (is_text (typed_in c words)) refl)

abbrev InputStays : (book left other : Book) (sheet : ℕ) (row column : ℤ) (text new locale language : List ℕ) → Type 0
InputStays book left other sheet row column text new locale language =
    IsWritable locale language book (OnWriting (writing.SetUserInput sheet row column text))
    → IsTypedSo (in_notation locale language left) (row, column) (written_formula book (writing.SetUserInput sheet row column text)) (typed_in book text) new
    → LeavesSame left (step other (OnWriting (writing.SetUserInput sheet row column new)))

module _ (b left c : Book) (valid : IsValidBook b) (valid_there : IsValidBook (in_notation c.locale c.language b)) (same : IsSameBook b c) (fields : List Field) (index : ℕ) (row column : ℤ) (text new : List ℕ)
    (e : step b (OnWriting (writing.SetUserInput index row column text)) ≡ Ok (left, fields)) where
  input_stays : InputStays b left c index row column text new c.locale c.language
  unfolding input_step
  input_stays writable so =
      let place : CellPlace = (row, column) in
      write_again b c same index place (λ s. typed_written b s place (typed_in b text)) (λ t. typed_written c t place (typed_in c new)) [] [] left fields e
      (λ s t at there sheets done. (
        typed_same b c valid valid_there same left (ap (λ (x : Book). x.tables) done.is ∙ same.tables) (ap scene_in done.is ∙ placed b index s (with_content place _ _ s) at refl)
            index s t at there sheets place (and_from _ _ done.row done.column) new (typed_in b text) writable so,
        refl,
      ))

pub input_is_same : (locale language : List ℕ) → InputIsSame locale language
input_is_same locale language book left other fields sheet row column text new beside e =
    subst (λ (l : List ℕ). InputStays book left other sheet row column text new l language) beside.locale_is
    (subst (λ (l : List ℕ). InputStays book left other sheet row column text new other.locale l) beside.language_is
    (input_stays book left other beside.valid (twin_valid locale language book other beside) beside.same fields sheet row column text new e))
