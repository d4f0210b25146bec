-- A new sheet, added by the name that it got, leaves the same of books that are the same.
use Rattle.std.proofs.Common.{◌≡◌, ℕ, ◌+◌, List, [], ◌∷◌, length, false, None, sym, ap, subst, ◌∙◌}
use Rattle.std.proofs.lemmas.List.Elements.{AllZip-push}
use Rattle.std.specs.Prelude.{is_none}
use Rattle.ic_laws.specs.CoreBook.{CoreBook, fresh_id, greatest_id}
use Rattle.ic_laws.specs.CoreStep as core
use Rattle.ic_laws.specs.CoreStep.{core_step}
use Rattle.ic_laws.specs.Keeping.{same_keys}
use Rattle.ic_machine.specs.Book.{Book, as_core, core_of, empty_sheet, notations_in}
use Rattle.ic_machine.specs.Changed.{changed_by}
use Rattle.ic_machine.specs.Refusal.{IdsUsedUp, first_refusal}
use Rattle.ic_machine.specs.Same.{IsSameBook, IsSameSheet}
use Rattle.ic_machine.specs.TranslationLaws.{NewSheetIsSame}
use Rattle.ic_machine.specs.subjects.Sheets.{add_sheet_step, named_fields, new_sheet_name, new_sheet_step, with_new_sheet}
use Rattle.ic_machine.proofs.same.ChangedSame.{changed_same}
use Rattle.ic_machine.proofs.bound.InsertedBinds.{accepted}
use Rattle.ic_machine.proofs.valid.InsertedStays.{none_holds}
use Rattle.ic_machine.proofs.valid.NewSheetStays.{is_free, is_good}
use Rattle.ic_machine.proofs.same.SameLemmas.{core_same, sheet_itself}

pub added_same : (name : List ℕ) (b c : Book) → IsSameBook b c → IsSameBook (with_new_sheet name b) (with_new_sheet name c)
added_same name b c same = record {
  sheets = AllZip-push IsSameSheet b.sheets c.sheets (empty_sheet (greatest_id (core_of b) + 1) name) (empty_sheet (greatest_id (core_of c) + 1) name) same.sheets new;
  definitions = same.definitions;
  zone = same.zone;
  theme = same.theme;
  name = same.name;
  metadata = same.metadata;
  tables = same.tables;
}
  where
    new : IsSameSheet (empty_sheet (greatest_id (core_of b) + 1) name) (empty_sheet (greatest_id (core_of c) + 1) name)
    new = subst (λ id. IsSameSheet (empty_sheet (greatest_id (core_of b) + 1) name) (empty_sheet (id + 1) name)) (sym (ap greatest_id (core_same b c same))) (sheet_itself (empty_sheet (greatest_id (core_of b) + 1) name))

pub new_sheet_is_same : (locale language : List ℕ) → NewSheetIsSame locale language
unfolding new_sheet_step add_sheet_step core_step
new_sheet_is_same locale language book left other fields beside e =
    let name : List ℕ = new_sheet_name book in
    let ok = accepted (first_refusal ((is_none (fresh_id (core_of book)), IdsUsedUp) ∷ [])) (changed_by (with_new_sheet name) book) left (named_fields name (length book.sheets)) fields e in
    let fresh : is_none (fresh_id (core_of book)) ≡ false = (none_holds ((is_none (fresh_id (core_of book)), IdsUsedUp) ∷ []) ok.0).0 in
    let free : core.add_sheet_refusal (core_of book) name ≡ None = simp (is_good book beside.valid, is_free book beside.valid, fresh) in
    let free_there : core.add_sheet_refusal (core_of other) name ≡ None = ap (λ (c : CoreBook). core.add_sheet_refusal c name) (core_same book other beside.same) ∙ free in
    let added : Book = changed_by (with_new_sheet name) other in
    let now : CoreBook = core.changed_by (notations_in other) (core.with_new_sheet name) (core_of other) in (
      added,
      (
        [],
        (
          ap (λ r. as_core (core.unless_refused r now []) added) free_there,
          subst (λ b. IsSameBook b added) (sym ok.1) (changed_same same_keys (with_new_sheet name) (with_new_sheet name) (added_same name) book other beside.same),
        ),
      ),
    )
