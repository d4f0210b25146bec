-- The number in the name of a new sheet or of a copy is the first that gives a free name.
use Rattle.std.proofs.Common.{◌≡◌, ℕ, ◌+◌, ◌<◌, List, [], ◌∷◌, ◌++◌, length, false, Option, Some, Ok, refl, sym, ap, ◌∙◌, arith, length-append}
use Rattle.std.proofs.Math.Seq.{get_or-append_seam}
use Rattle.std.proofs.lemmas.List.{length-map}
use Rattle.std.proofs.lemmas.Option.{slice_get_read, slice_get_within}
use Rattle.std.specs.Prelude.{is_none, option_map, slice_get}
use Rattle.ic_laws.specs.CoreBook.{fresh_id, greatest_id, has_sheet}
use Rattle.ic_laws.specs.Keeping.{same_keys}
use Rattle.ic_machine.specs.Book.{Book, Sheet, core_of, empty_sheet, found_or, notations_in, scene_in}
use Rattle.ic_machine.specs.Changed.{changed_by, with_kept_formulas}
use Rattle.ic_machine.specs.Laws.{CopyIsNamedFirst, IsFirstFree, NewIsNamedFirst}
use Rattle.ic_machine.specs.Refusal.{IdsUsedUp, InvalidSheet, Refusal, first_refusal}
use Rattle.ic_machine.specs.subjects.Sheets.{copies_of_definitions, copy_name, copy_of_sheet, duplicate_sheet_step, duplicated, free_number, name_of_copy, named_fields, new_sheet_name, new_sheet_step, numbered_name, with_copy, with_new_sheet}
use Rattle.ic_machine.proofs.valid.DuplicatedStays as copies
use Rattle.ic_machine.proofs.bound.InsertedBinds.{accepted, told}
use Rattle.ic_machine.proofs.valid.InsertedStays.{none_holds}
use Rattle.ic_machine.proofs.valid.NewSheetStays.{is_free}
use Rattle.ic_machine.proofs.bound.NumberLemmas.{from_one, smaller_taken}
use Rattle.ic_laws.proofs.keeping.Moves.{insert_place as got_inserted}

-- what is added at the end stands there
got_at_end : {X : Type 0} (xs : List X) (x : X) → slice_get (xs ++ x ∷ []) (length xs) ≡ Some x
got_at_end xs x =
    let long : length (xs ++ x ∷ []) ≡ length xs + 1 = length-append xs (x ∷ []) in
    slice_get_read (xs ++ x ∷ []) (length (xs ++ x ∷ [])) (length xs) x refl (omega (arith, long)) (sym (get_or-append_seam xs x [] x))

first_free : (b : Book) (name : ℕ → List ℕ) → has_sheet (core_of b) (name (free_number b name)) ≡ false → IsFirstFree b name (free_number b name)
first_free b name free = record { from_one = from_one b name; free = free; taken = smaller_taken b name }

-- the name of a sheet that a book has at an index
abbrev name_at : ℕ → List Sheet → Option (List ℕ)
name_at index sheets = option_map (λ (s : Sheet). s.name) (slice_get sheets index)

pub new_is_named_first : NewIsNamedFirst
unfolding new_sheet_step
new_is_named_first b after fields valid e =
    let name : List ℕ = new_sheet_name b in
    let before : Book = with_kept_formulas (notations_in b) (scene_in b) (scene_in (with_new_sheet name b)) same_keys b in
    let new : Sheet = empty_sheet (greatest_id (core_of before) + 1) name in
    let long : length before.sheets ≡ length b.sheets = length-map b.sheets _ in
    let refusal : Option Refusal = first_refusal ((is_none (fresh_id (core_of b)), IdsUsedUp) ∷ []) in
    let ok = accepted refusal (changed_by (with_new_sheet name) b) after (named_fields name (length b.sheets)) fields e in
    record {
      number = free_number b (numbered_name b);
      first = first_free b (numbered_name b) (is_free b valid);
      named = ap (λ (left : Book). name_at (length b.sheets) left.sheets) ok.1
          ∙ ap (λ k. name_at k (changed_by (with_new_sheet name) b).sheets) (sym long)
          ∙ ap (option_map (λ (s : Sheet). s.name)) (got_at_end before.sheets new);
      told = told refusal (changed_by (with_new_sheet name) b) after (named_fields name (length b.sheets)) fields e;
    }

pub copy_is_named_first : CopyIsNamedFirst
unfolding duplicate_sheet_step
copy_is_named_first b after index source fields valid at e =
    let name : List ℕ = name_of_copy b source.name in
    let change : Book → Book = with_copy index (copy_of_sheet b index source) (copies_of_definitions b index source) in
    let refusal : Option Refusal = first_refusal ((is_none (fresh_id (core_of b)), IdsUsedUp) ∷ []) in
    let one : duplicated b index source ≡ Ok (after, fields) = sym (ap (λ (o : Option Sheet). found_or InvalidSheet (option_map (duplicated b index) o)) at) ∙ e in
    let ok = accepted refusal (changed_by change b) after (named_fields name (index + 1)) fields one in
    let room = (none_holds ((is_none (fresh_id (core_of b)), IdsUsedUp) ∷ []) ok.0).0 in
    let within : index < length b.sheets = slice_get_within b.sheets index source at in
    let kept : List Sheet = (with_kept_formulas (notations_in b) (scene_in b) (scene_in (change b)) same_keys b).sheets in
    let long : length kept ≡ length b.sheets = length-map b.sheets _ in
    record {
      number = free_number b (copy_name source.name);
      first = first_free b (copy_name source.name) (copies.free b valid index source at room);
      named = ap (λ (left : Book). name_at (index + 1) left.sheets) ok.1
          ∙ ap (option_map (λ (s : Sheet). s.name)) (got_inserted kept (index + 1) (copy_of_sheet b index source) (omega (arith, within, long)));
      told = told refusal (changed_by change b) after (named_fields name (index + 1)) fields one;
    }
