-- What an update of a definition does is the machine's step, and so is the question whether it would capture.
use Rattle.std.proofs.Common.{◌≡◌, List, [], ◌∷◌, Bool, true, false, if◌then◌else◌, Option, Some, None, Result, Ok, Err, refl, sym, ap, ap₂, subst, ◌∙◌, inl, inr, IfOk, IsErr, IsErrAnd, OnErr, OnOk}
use Rattle.ic_machine.proofs.bound.UpdatedBinds.{updated_is_meant}
use Rattle.ic_machine.specs.Binds.{UpdatesWords}
use Rattle.ic_machine.specs.Book as machine
use Rattle.ic_machine.specs.Book.{Stepped, unless}
use Rattle.ic_machine.specs.Refusal.{Refusal, WouldCapture, first_refusal}
use Rattle.ic_machine.specs.Reply.{Field, bool_field}
use Rattle.ic_machine.specs.subjects.Definitions.{Update, UpdateDefinedName, WouldCaptureName, captures, definition_step, question_causes, update_causes, update_name_step, update_sites, updated_book, would_capture_step}
use Rattle.ic_parts.specs.Book.{IsValidBook, ModelState, whole_of}
use Rattle.ic_parts.specs.Does.{DoesWhere, IsDoneOr, Made, Refused, WantedWhere}
use Rattle.ic_parts.specs.Fields.{no_fields}
use Rattle.ic_parts.specs.Refused.{IsLate, TellsWhere, refusal_of}
use Rattle.ic_changes.specs.Updated.{is_late_question, is_late_update}
use Rattle.ic_parts.specs.declared.error.BookError.{BookError}
use Rattle.ic_parts.specs.declared.error.BookError.TheVariants as errors
use Rattle.ic_parts.proofs.ExtendLemmas.{first_earlier, first_later}

module _ {T : Type 0} (is_late : Refusal → Bool) (refusal : Option Refusal) (left : machine.Book) (told : List Field) (fields : T → List Field) (old new : ModelState) where
  told_so : (o : Option Refusal) → new ≡ old → Refused (WantedWhere is_late) (unless o left told) old new o
  told_so None same = (tt, same)
  told_so (Some r) same = (refl, same)

  late_so : (o : Option Refusal) → IsLate is_late o → IsDoneOr is_late (unless o left told)
  late_so None late = tt
  late_so (Some r) late = late

  -- a step that this refuses, where memory may run out before some refusals are seen
  pub made_where : (result : Result T BookError) → TellsWhere is_late result refusal → IfOk result (λ value. (whole_of new.book ≡ left) × (fields value ≡ told)) → OnErr result (new ≡ old)
      → Made (WantedWhere is_late) (unless refusal left told) fields old new result
  made_where (Ok value) e leaves same =
      ap (λ r. unless r left told) e ∙ ap₂ (λ (w : machine.Book) (fs : List Field). let made : Stepped machine.Book = Ok (w, fs) in made) (sym leaves.0) (sym leaves.1)
  made_where (Err error) (inl e) leaves same =
      subst (λ r. Refused (WantedWhere is_late) (unless r left told) old new (refusal_of error)) (sym e) (told_so (refusal_of error) same)
  made_where (Err error) (inr both) leaves same =
      subst (λ e. Refused (WantedWhere is_late) (unless refusal left told) old new (refusal_of e)) (sym both.1) (late_so refusal both.0, same)

leaves_book : (result : Result (Unit {0}) BookError) (new : ModelState) (left : machine.Book) → OnOk result (whole_of new.book ≡ left) → IfOk result (λ value. (whole_of new.book ≡ left) × (no_fields value ≡ []))
leaves_book (Ok value) new left e = (e, refl)
leaves_book (Err error) new left e = tt

tells_truth : (result : Result Bool BookError) (now : ModelState) (truth : Bool) → IfOk result (λ answer. answer ≡ truth) → IfOk result (λ answer. (whole_of now.book ≡ whole_of now.book) × (bool_field answer ≡ bool_field truth))
tells_truth (Ok answer) now truth e = (refl, ap bool_field e)
tells_truth (Err error) now truth e = tt

unchanged : (result : Result Bool BookError) (now : ModelState) → OnErr result (now ≡ now)
unchanged (Ok answer) now = tt
unchanged (Err error) now = refl

-- what refuses the question refuses the update, and after that only captured words do ----

-- an error that tells no refusal tells that memory ran out
memory_told : (e : BookError) → refusal_of e ≡ None → e ≡ errors.OutOfMemory
memory_told errors.OutOfMemory h = refl
memory_told e h = cc

later_too : (r : Refusal) → is_late_question r ≡ true → is_late_update r ≡ true
later_too (WouldCapture sites) h = refl
later_too r h = h

module _ (b : machine.Book) (u : Update) where
  late_question : first_refusal (question_causes b u) ≡ None → IsLate is_late_update (first_refusal (update_causes b u))
  late_question asked = subst (IsLate is_late_update) (sym (first_later (question_causes b u) (captures b u) (WouldCapture (update_sites b u)) asked)) (by_capture (captures b u))
    where
      by_capture : (c : Bool) → IsLate is_late_update (if c then Some (WouldCapture (update_sites b u)) else None)
      by_capture true = refl
      by_capture false = tt

  refused_too : (r : Refusal) → first_refusal (question_causes b u) ≡ Some r → first_refusal (update_causes b u) ≡ Some r
  refused_too r e = first_earlier (question_causes b u) ((captures b u, WouldCapture (update_sites b u)) ∷ []) r e

  late_too : (o : Option Refusal) → first_refusal (question_causes b u) ≡ o → IsLate is_late_question o → IsLate is_late_update (first_refusal (update_causes b u))
  late_too None e late = late_question e
  late_too (Some r) e late = subst (IsLate is_late_update) (sym (refused_too r e)) (later_too r late)

  by_told : (e : BookError) (o : Option Refusal) → refusal_of e ≡ o → first_refusal (question_causes b u) ≡ o → TellsWhere is_late_update {T = Unit {0}} (Err e) (first_refusal (update_causes b u))
  by_told e None none asked = inr (late_question asked, memory_told e none)
  by_told e (Some r) told asked = inl (refused_too r asked ∙ sym told)

  -- an error of the checks is one of the update
  pub refused_by_checks : (e : BookError) (r : Result (Unit {0}) BookError) → IsErr r × IsErrAnd r (λ f. f ≡ e) → TellsWhere is_late_question {T = Unit {0}} (Err e) (first_refusal (question_causes b u)) → TellsWhere is_late_update r (first_refusal (update_causes b u))
  refused_by_checks e (Ok value) h told = let no : false ≡ true = h.0 in cc
  refused_by_checks e (Err f) h (inl told) = subst (λ x. TellsWhere is_late_update {T = Unit {0}} (Err x) (first_refusal (update_causes b u))) (sym h.1) (by_told e (refusal_of e) refl told)
  refused_by_checks e (Err f) h (inr both) = inr (late_too (first_refusal (question_causes b u)) refl both.0, h.1 ∙ both.1)

  -- after them memory may run out
  pub wanted_after : first_refusal (question_causes b u) ≡ None → {T : Type 0} (r : Result T BookError) → IsErr r × IsErrAnd r (λ e. e ≡ errors.OutOfMemory) → TellsWhere is_late_update r (first_refusal (update_causes b u))
  wanted_after asked (Ok value) h = let no : false ≡ true = h.0 in cc
  wanted_after asked (Err e) h = inr (late_question asked, h.1)

-- after the checks of the question memory may run out
pub question_wants : {T : Type 0} (refusal : Option Refusal) → refusal ≡ None → (r : Result T BookError) → IsErr r × IsErrAnd r (λ e. e ≡ errors.OutOfMemory) → TellsWhere is_late_question r refusal
question_wants refusal none (Ok value) h = none
question_wants refusal none (Err e) h = inl (none ∙ sym (ap refusal_of h.1))

pub updates : (result : Result (Unit {0}) BookError) (old new : ModelState) (u : Update) → OnOk result (whole_of new.book ≡ updated_book (whole_of old.book) u) → TellsWhere is_late_update result (first_refusal (update_causes (whole_of old.book) u))
    → OnErr result (new ≡ old) → IsValidBook old.book → IsValidBook new.book → DoesWhere is_late_update definition_step (UpdateDefinedName u) no_fields result old new
unfolding update_name_step
updates result old new u is refused same before after = record {
  done =
      made_where is_late_update (first_refusal (update_causes (whole_of old.book) u)) (updated_book (whole_of old.book) u) [] no_fields old new result refused
      (leaves_book result new (updated_book (whole_of old.book) u) is) same;
  before = before;
  after = after;
}

-- and what was bound to a definition is bound to the same one
pub means_same : (result : Result (Unit {0}) BookError) (old new : ModelState) (u : Update) → DoesWhere is_late_update definition_step (UpdateDefinedName u) no_fields result old new → OnOk result (UpdatesWords (whole_of old.book) (whole_of new.book) u)
means_same (Ok value) old new u does = updated_is_meant (whole_of old.book) (whole_of new.book) u [] does.before.whole does.done
means_same (Err error) old new u does = tt

pub asks : (result : Result Bool BookError) (now : ModelState) (u : Update) → IfOk result (λ answer. answer ≡ captures (whole_of now.book) u) → TellsWhere is_late_question result (first_refusal (question_causes (whole_of now.book) u))
    → IsValidBook now.book → DoesWhere is_late_question definition_step (WouldCaptureName u) bool_field result now now
unfolding would_capture_step
asks result now u is refused valid = record {
  done =
      made_where is_late_question (first_refusal (question_causes (whole_of now.book) u)) (whole_of now.book) (bool_field (captures (whole_of now.book) u)) bool_field now now result refused
      (tells_truth result now (captures (whole_of now.book) u) is) (unchanged result now);
  before = valid;
  after = valid;
}
