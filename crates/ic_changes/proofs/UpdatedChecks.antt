-- What refuses the question whether an update of a definition would capture.
use Rattle.std.proofs.Common.{◌≡◌, ℕ, true, false, not, ◌&&◌, Option, Some, None, Result, Ok, Err, IsErr, IsErrAnd, refl, sym, ap, subst, ◌∙◌, inl, inr}
use Rattle.std.specs.Prelude.{position}
use Rattle.std.specs.List.{list_any}
use Rattle.std.proofs.lemmas.Bool.{cases_Bool}
use Rattle.ic_laws.specs.CoreBook.{CoreBook}
use Rattle.ic_laws.specs.CoreStep.{is_named, scope_of, scope_or_none}
use Rattle.ic_laws.specs.FormulaReading.{Body}
use Rattle.ic_laws.specs.Name.{agrees, is_identifier}
use Rattle.ic_laws.specs.Scene.{same_scope}
use Rattle.ic_machine.specs.Book as machine
use Rattle.ic_machine.specs.Refusal.{InvalidFormula, NameExists, NameNotFound, Refusal, first_refusal}
use Rattle.ic_machine.specs.subjects.Definitions.{Update, question_causes, update_body}
use Rattle.ic_definitions.proofs.NamesFacts.{some_position}
use Rattle.ic_parts.specs.Book.{Book, core_of, notations_in, whole_of}
use Rattle.ic_parts.specs.Definitions.{body_of_typed}
use Rattle.ic_parts.specs.Refused.{IsLate, TellsWhere}
use Rattle.ic_changes.specs.Updated.{IsChecked, is_late_question}
use Rattle.ic_changes.specs.declared.definitions.update.CheckedUpdate.{CheckedUpdate}
use Rattle.ic_parts.specs.declared.error.BookError.{BookError}
use Rattle.ic_parts.specs.declared.error.BookError.TheVariants as errors
use Rattle.ic_parts.proofs.NameLemmas.{scope_is}
use Rattle.ic_parts.proofs.WholeLemmas.{whole_core}

module _ (book : Book) (u : Update) (good : is_identifier u.new_name ≡ true) (old new : Option ℕ) (from : scope_of (core_of book) u.scope ≡ Some old) (to : scope_of (core_of book) u.new_scope ≡ Some new) where
  abbrev told : Option Refusal
  told = first_refusal (question_causes (whole_of book) u)

  from_seen : scope_of (machine.core_of (whole_of book)) u.scope ≡ Some old
  from_seen = ap (λ (c : CoreBook). scope_of c u.scope) (whole_core book) ∙ from

  to_seen : scope_of (machine.core_of (whole_of book)) u.new_scope ≡ Some new
  to_seen = ap (λ (c : CoreBook). scope_of c u.new_scope) (whole_core book) ∙ to

  typed_seen : update_body (notations_in book) (machine.core_of (whole_of book)) u.body ≡ update_body (notations_in book) (core_of book) u.body
  typed_seen = ap (λ (c : CoreBook). update_body (notations_in book) c u.body) (whole_core book)

  pub meets : (list_any (is_named u.new_name new) book.definitions && not (agrees u.name u.new_name && same_scope old new)) ≡ true → first_refusal (question_causes (whole_of book) u) ≡ Some NameExists
  meets other = rw good (rw from_seen (rw to_seen (rw other refl)))

  -- no other definition has the new key
  module _ (apart : (list_any (is_named u.new_name new) book.definitions && not (agrees u.name u.new_name && same_scope old new)) ≡ false) where
    pub unread : update_body (notations_in book) (core_of book) u.body ≡ None → first_refusal (question_causes (whole_of book) u) ≡ Some InvalidFormula
    unread none = let body = typed_seen ∙ none in rw good (rw from_seen (rw to_seen (rw apart (rw body refl))))

    module _ (body : Body) (reads : update_body (notations_in book) (core_of book) u.body ≡ Some body) where
      pub unnamed : list_any (is_named u.name old) book.definitions ≡ false → first_refusal (question_causes (whole_of book) u) ≡ Some NameNotFound
      unnamed none = let read = typed_seen ∙ reads in rw good (rw from_seen (rw to_seen (rw apart (rw read (rw none refl)))))

      pub asked : list_any (is_named u.name old) book.definitions ≡ true → first_refusal (question_causes (whole_of book) u) ≡ None
      asked some = let read = typed_seen ∙ reads in rw good (rw from_seen (rw to_seen (rw apart (rw read (rw some refl)))))

    -- what refuses it then needs memory to be seen
    late : IsLate is_late_question (first_refusal (question_causes (whole_of book) u))
    late = by_body (update_body (notations_in book) (core_of book) u.body) refl
      where
        by_body : (o : Option Body) → update_body (notations_in book) (core_of book) u.body ≡ o → IsLate is_late_question told
        by_body None none = subst (IsLate is_late_question) (sym (unread none)) refl
        by_body (Some body) reads = elim (cases_Bool (list_any (is_named u.name old) book.definitions)) [
          | inl some ↦ subst (IsLate is_late_question) (sym (asked body reads some)) tt
          | inr none ↦ subst (IsLate is_late_question) (sym (unnamed body reads none)) refl
        ]

    pub asked_late : {T : Type 0} (r : Result T BookError) → IsErr r × IsErrAnd r (λ e. e ≡ errors.OutOfMemory) → TellsWhere is_late_question r (first_refusal (question_causes (whole_of book) u))
    asked_late (Ok value) h = let no : false ≡ true = h.0 in cc
    asked_late (Err e) h = inr (late, h.1)

    -- nothing refuses it
    pub is_checked : (checked : CheckedUpdate) → checked.old_scope ≡ old → checked.new_scope ≡ new → position (is_named u.name old) book.definitions ≡ Some checked.index → update_body (notations_in book) (core_of book) u.body ≡ Some (body_of_typed checked.body)
        → IsChecked (whole_of book) u checked
    is_checked checked one other at reads =
        let old_is : scope_or_none (machine.core_of (whole_of book)) u.scope ≡ old = scope_is (machine.core_of (whole_of book)) u.scope old from_seen in
        let new_is : scope_or_none (machine.core_of (whole_of book)) u.new_scope ≡ new = scope_is (machine.core_of (whole_of book)) u.new_scope new to_seen in
        record {
          old_scope = old_is ∙ sym one;
          new_scope = new_is ∙ sym other;
          index = ap (λ (s : Option ℕ). position (is_named u.name s) book.definitions) old_is ∙ at;
          body = typed_seen ∙ reads;
          accepted = asked (body_of_typed checked.body) reads (some_position (is_named u.name old) book.definitions checked.index at);
        }
