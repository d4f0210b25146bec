-- A new sheet of a name with a number: the book stays valid, and what is bound then is bound to that sheet.
use Rattle.std.proofs.Common.{◌≡◌, ℕ, suc, ◌+◌, ◌≤◌, List, [], ◌∷◌, length, map, true, false, not, refl, sym, ap, subst, ◌∙◌, arith}
use Rattle.std.proofs.lemmas.List.{length-map}
use Rattle.std.specs.List.{find, range_with_len}
use Rattle.std.specs.Prelude.{is_none}
use Rattle.ic_laws.proofs.CoreLemmas.{fresh_room}
use Rattle.ic_laws.proofs.core.Named.{added_named, book_named}
use Rattle.ic_laws.proofs.core.SheetAdded.{added_valid}
use Rattle.ic_laws.proofs.keeping.Accepted.{none_refuses}
use Rattle.ic_laws.proofs.keeping.Renames.{add_binds}
use Rattle.ic_laws.proofs.kept.TreeFacts.{tree_facts}
use Rattle.ic_laws.specs.CoreBook as core_book
use Rattle.ic_laws.specs.CoreBook.{CoreBook, fresh_id, has_sheet, names_of, scene_of}
use Rattle.ic_laws.specs.CoreStep as core
use Rattle.ic_laws.specs.CoreStep.{add_sheet_causes}
use Rattle.ic_laws.specs.Name.{is_sheet_name}
use Rattle.ic_laws.specs.Notations.{Notations}
use Rattle.ic_laws.specs.ValidCore.{IsValidCore}
use Rattle.ic_tree.proofs.NotationLaws.{notations_are}
use Rattle.ic_machine.specs.Binds.{NewIsMeant}
use Rattle.ic_machine.specs.Book.{Book, core_of, core_sheet, notations_in, scene_in}
use Rattle.ic_machine.specs.Changed.{changed_by}
use Rattle.ic_machine.specs.Kept.{StaysValid}
use Rattle.ic_machine.specs.Refusal.{IdsUsedUp, first_refusal}
use Rattle.ic_machine.specs.Valid.{IsValidBook}
use Rattle.ic_machine.specs.subjects.Sheets.{base_name, free_number, named_fields, new_sheet_name, new_sheet_step, numbered_name, with_new_sheet}
use Rattle.ic_machine.proofs.as_core.CoreLemmas.{core_of-added, core_of-changed}
use Rattle.ic_machine.proofs.as_core.CoreValid.{core_valid}
use Rattle.ic_machine.proofs.bound.InsertedBinds.{accepted}
use Rattle.ic_machine.proofs.valid.InsertedStays.{none_holds}
use Rattle.ic_machine.proofs.bound.NewNames.{base_good, free_of, numbered_good, numbers_apart}
use Rattle.ic_machine.proofs.bound.NumberLemmas.{small}
use Rattle.ic_machine.proofs.valid.SheetsStay.{added_stays}
use Rattle.ic_machine.proofs.valid.ValidLemmas.{stays_unless}

module _ (b : Book) (valid : IsValidBook b) where
  pub is_free : has_sheet (core_of b) (new_sheet_name b) ≡ false
  is_free =
      let few : length b.sheets ≤ 4294967295 = valid.sheets.few in
      let count : length (names_of (core_of b)) ≡ length b.sheets = length-map (map core_sheet b.sheets) (λ (s : core_book.Sheet). s.name) ∙ length-map b.sheets core_sheet in
      free_of (names_of (core_of b)) (numbered_name b) (length b.sheets + 2) (λ a n x y e. numbers_apart (base_name b.language) a n (omega (arith, x, few)) (omega (arith, y, few)) e) 1 (suc (length b.sheets))
      (find (λ n. not (has_sheet (core_of b) (numbered_name b n))) (range_with_len 1 (suc (length b.sheets)))) (suc (length b.sheets)) refl (omega (arith, count)) (omega (arith))

  pub is_good : is_sheet_name (new_sheet_name b) ≡ true
  is_good =
      let few : length b.sheets ≤ 4294967295 = valid.sheets.few in
      let most : free_number b (numbered_name b) ≤ length b.sheets + 1 = small b (numbered_name b) in
      numbered_good (base_name b.language) (free_number b (numbered_name b)) (base_good b.language) (omega (arith, few, most))

  new_core : is_none (fresh_id (core_of b)) ≡ false → IsValidCore (notations_in b) (core_of (changed_by (with_new_sheet (new_sheet_name b)) b))
  new_core left =
      let n : Notations = notations_in b in
      let name : List ℕ = new_sheet_name b in
      let held : IsValidCore n (core_of b) = core_valid b valid in
      subst (IsValidCore n) (sym (core_of-changed (with_new_sheet name) (core.with_new_sheet name) (core_of-added name) b))
      (added_valid n (core_of b) name held
      ((tree_facts n (notations_are b.tables valid.tables)).keeps (scene_in b) (scene_of (core.with_new_sheet name (core_of b))) (book_named n (core_of b) held) (added_named n (core_of b) held name is_good is_free)) is_good is_free
      (fresh_room (core_of b) left))

  pub new_sheet_stays : StaysValid (new_sheet_step b)
  unfolding new_sheet_step
  new_sheet_stays =
      stays_unless _ (changed_by (with_new_sheet (new_sheet_name b)) b) (named_fields (new_sheet_name b) (length b.sheets))
      (λ e. added_stays b valid (new_sheet_name b) (new_core (none_holds ((is_none (fresh_id (core_of b)), IdsUsedUp) ∷ []) e).0))

pub new_is_meant : NewIsMeant
unfolding new_sheet_step
new_is_meant b after fields valid e =
    let n : Notations = notations_in b in
    let name : List ℕ = new_sheet_name b in
    let ok = accepted (first_refusal ((is_none (fresh_id (core_of b)), IdsUsedUp) ∷ [])) (changed_by (with_new_sheet name) b) after (named_fields name (length b.sheets)) fields e in
    let left = (none_holds ((is_none (fresh_id (core_of b)), IdsUsedUp) ∷ []) ok.0).0 in
    let added : CoreBook = core.changed_by n (core.with_new_sheet name) (core_of b) in
    ap core_of ok.1 ∙ core_of-changed (with_new_sheet name) (core.with_new_sheet name) (core_of-added name) b
    ∙ add_binds n (core_of b) added name [] (notations_are b.tables valid.tables) (core_valid b valid)
    (ap (λ r. core.unless_refused r added []) (none_refuses (add_sheet_causes (core_of b) name) (ap not (is_good b valid), (is_free b valid, (left, tt)))))
