-- The lines that name the first sheet and put in the others are accepted, and leave the sheets as they stand.
use Rattle.std.proofs.Common.{◌≡◌, ℕ, suc, ◌+◌, List, [], ◌∷◌, ◌++◌, filter, length, map, Bool, true, false, cond, not, ◌||◌, Option, None, Some, Ok, refl, sym, ap, ap₂, subst, ◌∙◌, append_assoc, arith, length-append, nat_eq}
use Rattle.std.proofs.lemmas.Bool.{eqb-true}
use Rattle.std.proofs.lemmas.Bool.Decides.{nat_tests}
use Rattle.std.proofs.lemmas.List.{length-map, map-append}
use Rattle.std.proofs.lemmas.List.Folds.{list_any-append}
use Rattle.std.specs.Cmp.{IsEquivalence, nat_eq_equiv}
use Rattle.std.specs.List.{AllByRecursion, IsDistinct, list_any}
use Rattle.std.specs.Prelude.{nat_lt}
use Rattle.ic_laws.proofs.CoreLemmas.{agrees_equiv}
use Rattle.ic_laws.proofs.keeping.Accepted.{none_refuses}
use Rattle.ic_laws.specs.CoreBook.{ids_of}
use Rattle.ic_laws.specs.CoreStep as core_step
use Rattle.ic_laws.specs.CoreStep.{core_step}
use Rattle.ic_laws.specs.Keeping.{same_keys}
use Rattle.ic_laws.specs.Name.{agrees, is_sheet_name}
use Rattle.ic_laws.specs.Refusal as core_refusal
use Rattle.ic_laws.specs.declared.scene.SheetName.{SheetName}
use Rattle.ic_machine.specs.Book.{Book, Sheet, Stepped, as_core, core_of, notations_in, scene_in}
use Rattle.ic_machine.specs.Changed.{changed_by, with_renamed_sheet}
use Rattle.ic_machine.specs.Command.{OnSheets}
use Rattle.ic_machine.specs.Kept.{StaysValid, is_given_id}
use Rattle.ic_machine.specs.Step.{english_errors}
use Rattle.ic_machine.specs.Valid.{IsValidBook}
use Rattle.ic_machine.specs.subjects.Sheets as sheets
use Rattle.ic_machine.specs.subjects.Sheets.{insert_causes, insert_sheet_step, rename_by_index_step, with_inserted_sheet}
use Rattle.ic_machine.proofs.as_core.CoreValid.{core_valid}
use Rattle.ic_machine.proofs.valid.InsertedStays.{insert_stays}
use Rattle.ic_machine.proofs.valid.NamesStay.{sheets_stay}
use Rattle.ic_machine.proofs.valid.ValidLemmas.{all_of}
use Rattle.ic_machine.proofs.bound.CopyKeys.{all_in_map}
use Rattle.ic_laws.proofs.core.Lists.{none_passes}
use Rattle.ic_dump.specs.Lines.{first_id, inserting_line, inserting_lines_from, is_first, naming_line}
use Rattle.ic_dump.specs.Passing.{standing_sheets}
use Rattle.ic_dump.specs.Stages.{InsertsOthers, Leads, NamesFirst, bare_sheet, first_sheet, with_bare}
use Rattle.ic_dump.proofs.BareBooks.{ids_bare, kept_bare, names_bare, unrefused}
use Rattle.ic_dump.proofs.ListLemmas.{IsOnly, filtered_holds, insert_seam, middle_differs, none_any, unmapped_holds}
use Rattle.ic_dump.proofs.RunLemmas.{leads_both, leads_line, leads_nowhere, leads_there}
use Rattle.ic_dump.proofs.StandLemmas.{IsGood, Stands, id_of, name_of, stands}
use Rattle.ic_dump.proofs.TextsRead.{inserting_read, naming_read}
use Rattle.ic_laws.proofs.General.{insert-map}

-- The first is named. ----

module _ (start : Book) (name : List ℕ) (good : is_sheet_name name ≡ true) (valid : IsValidBook (with_bare (first_sheet ∷ []) [] start)) where
  abbrev before : Book
  before = with_bare (first_sheet ∷ []) [] start

  abbrev called : SheetName
  called = record { id = first_id; name = name }

  stepped : rename_by_index_step 0 name before ≡ Ok (with_bare (called ∷ []) [] start, [])
  unfolding core_step rename_by_index_step
  stepped =
      let refusal : core_step.rename_refusal (core_of before) 0 name ≡ None = none_refuses (core_step.rename_causes (core_of before) 0 name) (ap not good, (refl, (refl, tt))) in
      ap (λ (o : Option core_refusal.Refusal). as_core (core_step.unless_refused o (core_step.changed_by (notations_in before) (core_step.with_sheet_name 0 name) (core_of before)) []) (changed_by (with_renamed_sheet 0 name) before)) refusal

  named : Leads before (naming_line called ∷ []) (with_bare (called ∷ []) [] start)
  named =
      leads_line before (with_bare (called ∷ []) [] start) (naming_line called) (OnSheets (sheets.RenameSheetByIndex 0 name)) [] (naming_read (english_errors before) called) stepped
      (subst StaysValid stepped (sheets_stay before valid (sheets.RenameSheetByIndex 0 name)))

pub names_first : NamesFirst
names_first book start is valid =
    let all : Stands (core_of book) = stands (notations_in book) (core_of book) (core_valid book is.valid) is.few in
    let it : SheetName = all.first.it in
    let name : List ℕ = it.name in
    let same : ◌≡◌ {A = SheetName} (record { id = first_id; name = name }) it = ap (λ (id : ℕ). let s : SheetName = record { id = id; name = name } in s) (sym (eqb-true it.id first_id all.first.passes)) in
    let lone : (record { id = first_id; name = name }) ∷ [] ≡ filter is_first (standing_sheets (core_of book)) = ap (λ (s : SheetName). s ∷ []) same ∙ sym all.first.alone in
    let good : is_sheet_name name ≡ true = it_is_good (standing_sheets (core_of book)) all.good all.first in
    subst (λ (xs : List SheetName). Leads (with_bare (first_sheet ∷ []) [] start) (map naming_line xs) (with_bare xs [] start)) lone (named start name good valid)
  where
    it_is_good : (xs : List SheetName) → AllByRecursion IsGood xs → (only : IsOnly is_first xs) → is_sheet_name only.it.name ≡ true
    it_is_good xs h only =
        let filtered : AllByRecursion IsGood (filter is_first xs) = filtered_holds IsGood is_first xs (all_of IsGood (λ s. is_first s ≡ true → IsGood s) (λ s g e. g) xs h) in
        (subst (AllByRecursion IsGood) only.alone filtered).0.name

-- Another is put in. ----

module _ (start : Book) (pre post : List SheetName) (x : SheetName) (valid : IsValidBook (with_bare (pre ++ post) [] start)) (good : IsGood x) (new_id : list_any (nat_eq x.id) (map id_of (pre ++ post)) ≡ false) (new_name : list_any (agrees x.name) (map name_of (pre ++ post)) ≡ false) where
  abbrev old : Book
  old = with_bare (pre ++ post) [] start

  abbrev new : Book
  new = with_bare (pre ++ x ∷ post) [] start

  many : length old.sheets ≡ length pre + length post
  many = length-map (pre ++ post) bare_sheet ∙ length-append pre post

  free_id : (nat_eq x.id 0 || list_any (nat_eq x.id) (ids_of (core_of old))) ≡ false
  free_id =
      let some = good.id.0 in
      let above : nat_eq x.id 0 ≡ false = grind (arith, nat_tests) in
      ap₂ (λ (a b : Bool). a || b) above (ap (list_any (nat_eq x.id)) (ids_bare (pre ++ post) [] start) ∙ new_id)

  within : nat_lt (length old.sheets) (length pre) ≡ false
  within = let long = many in grind (arith, nat_tests)

  left_is : changed_by (with_inserted_sheet (length pre) x.id x.name) old ≡ new
  left_is =
      ap (with_inserted_sheet (length pre) x.id x.name) (kept_bare (notations_in old) (scene_in old) (scene_in (with_inserted_sheet (length pre) x.id x.name old)) same_keys (pre ++ post) [] start)
      ∙ ap (λ (xs : List Sheet). let b : Book = record start { sheets = xs; definitions = [] } in b)
      (sym (insert-map bare_sheet (pre ++ post) (length pre) x) ∙ ap (map bare_sheet) (insert_seam pre post x))

  inserted_step : insert_sheet_step x.name (length pre) (Some x.id) old ≡ Ok (new, [])
  unfolding insert_sheet_step
  inserted_step =
      unrefused (insert_causes old x.name (length pre) (Some x.id)) (changed_by (with_inserted_sheet (length pre) x.id x.name) old) []
      (ap not good.name, (ap (list_any (agrees x.name)) (names_bare (pre ++ post) [] start) ∙ new_name, (within, (free_id, (refl, tt)))))
      ∙ ap (λ (b : Book). let o : Stepped Book = Ok (b, []) in o) left_is

  pub inserted : Leads old (inserting_line (length pre) x ∷ []) new
  inserted =
      let few = valid.sheets.few in
      let long = many in
      let id_small = good.id.1 in
      let small : is_given_id (Some x.id) ≡ true = grind (arith, nat_tests) in
      leads_line old new (inserting_line (length pre) x) (OnSheets (sheets.InsertSheet x.name (length pre) (Some x.id))) [] (inserting_read (english_errors old) (length pre) x (omega (arith, few, long)) id_small) inserted_step
      (subst StaysValid inserted_step (insert_stays old valid x.name (length pre) (Some x.id) small))

-- what differs from all of a list differs from those of a part of it
apart_in : {K : Type 0} (same : K → K → Bool) (laws : IsEquivalence same) (f : SheetName → K) (pre : List SheetName) (x : SheetName) (rest : List SheetName) → IsDistinct same (map f (pre ++ x ∷ rest))
    → list_any (same (f x)) (map f (pre ++ filter is_first rest)) ≡ false
apart_in {K} same laws f pre x rest d =
    let P : K → Type 0 = λ k. same (f x) k ≡ false in
    let parts = middle_differs laws (map f pre) (f x) (map f rest) (subst (IsDistinct same) (map-append f pre (x ∷ rest)) d) in
    let later : list_any (same (f x)) (map f (filter is_first rest)) ≡ false =
    none_any (same (f x)) (map f (filter is_first rest))
    (all_in_map f P (filter is_first rest) (filtered_holds (λ s. P (f s)) is_first rest (all_of (λ s. P (f s)) (λ s. is_first s ≡ true → P (f s)) (λ s h e. h) rest (unmapped_holds f P rest (none_passes (same (f x)) (map f rest) parts.1))))) in
    ap (list_any (same (f x))) (map-append f pre (filter is_first rest)) ∙ list_any-append (same (f x)) (map f pre) (map f (filter is_first rest)) ∙ ap₂ (λ (a b : Bool). a || b) parts.0 later

pub inserts : (start : Book) (pre rest : List SheetName) → IsDistinct nat_eq (map id_of (pre ++ rest)) → IsDistinct agrees (map name_of (pre ++ rest)) → AllByRecursion IsGood rest
    → IsValidBook (with_bare (pre ++ filter is_first rest) [] start) → Leads (with_bare (pre ++ filter is_first rest) [] start) (inserting_lines_from (length pre) rest) (with_bare (pre ++ rest) [] start)
inserts start pre [] ids names good valid = leads_nowhere (with_bare (pre ++ []) [] start) valid
inserts start pre (x ∷ rest) ids names good valid =
    by_test (is_first x) refl valid
    (inserts start (pre ++ x ∷ []) rest (subst (λ (xs : List SheetName). IsDistinct nat_eq (map id_of xs)) (sym (joined rest)) ids) (subst (λ (xs : List SheetName). IsDistinct agrees (map name_of xs)) (sym (joined rest)) names) good.1)
  where
    joined : (ys : List SheetName) → (pre ++ x ∷ []) ++ ys ≡ pre ++ x ∷ ys
    joined ys = append_assoc pre (x ∷ []) ys

    longer : length (pre ++ x ∷ []) ≡ suc (length pre)
    longer = let long = length-append pre (x ∷ []) in omega (arith, long)

    -- the rest of the lines, from where x stands
    later : (IsValidBook (with_bare ((pre ++ x ∷ []) ++ filter is_first rest) [] start) → Leads (with_bare ((pre ++ x ∷ []) ++ filter is_first rest) [] start) (inserting_lines_from (length (pre ++ x ∷ [])) rest) (with_bare ((pre ++ x ∷ []) ++ rest) [] start))
        → IsValidBook (with_bare (pre ++ x ∷ filter is_first rest) [] start) → Leads (with_bare (pre ++ x ∷ filter is_first rest) [] start) (inserting_lines_from (suc (length pre)) rest) (with_bare (pre ++ x ∷ rest) [] start)
    later more here =
        let from : with_bare ((pre ++ x ∷ []) ++ filter is_first rest) [] start ≡ with_bare (pre ++ x ∷ filter is_first rest) [] start = ap (λ (xs : List SheetName). with_bare xs [] start) (joined (filter is_first rest)) in
        let to : with_bare ((pre ++ x ∷ []) ++ rest) [] start ≡ with_bare (pre ++ x ∷ rest) [] start = ap (λ (xs : List SheetName). with_bare xs [] start) (joined rest) in
        leads_there (with_bare ((pre ++ x ∷ []) ++ filter is_first rest) [] start) (with_bare (pre ++ x ∷ filter is_first rest) [] start) (with_bare ((pre ++ x ∷ []) ++ rest) [] start) (with_bare (pre ++ x ∷ rest) [] start) (inserting_lines_from (suc (length pre)) rest) from to
        (subst (λ (n : ℕ). Leads (with_bare ((pre ++ x ∷ []) ++ filter is_first rest) [] start) (inserting_lines_from n rest) (with_bare ((pre ++ x ∷ []) ++ rest) [] start)) longer
        (more (subst IsValidBook (sym from) here)))

    by_test : (t : Bool) → is_first x ≡ t → IsValidBook (with_bare (pre ++ cond t (x ∷ filter is_first rest) (filter is_first rest)) [] start)
        → (IsValidBook (with_bare ((pre ++ x ∷ []) ++ filter is_first rest) [] start) → Leads (with_bare ((pre ++ x ∷ []) ++ filter is_first rest) [] start) (inserting_lines_from (length (pre ++ x ∷ [])) rest) (with_bare ((pre ++ x ∷ []) ++ rest) [] start))
        → Leads (with_bare (pre ++ cond t (x ∷ filter is_first rest) (filter is_first rest)) [] start) (cond t [] (inserting_line (length pre) x ∷ []) ++ inserting_lines_from (suc (length pre)) rest) (with_bare (pre ++ x ∷ rest) [] start)
    by_test true e here more = later more here
    by_test false e here more =
        let one : Leads (with_bare (pre ++ filter is_first rest) [] start) (inserting_line (length pre) x ∷ []) (with_bare (pre ++ x ∷ filter is_first rest) [] start) =
        inserted start pre (filter is_first rest) x here good.0 (apart_in nat_eq nat_eq_equiv id_of pre x rest ids) (apart_in agrees agrees_equiv name_of pre x rest names) in
        leads_both (with_bare (pre ++ filter is_first rest) [] start) (with_bare (pre ++ x ∷ filter is_first rest) [] start) (with_bare (pre ++ x ∷ rest) [] start) (inserting_line (length pre) x ∷ []) (inserting_lines_from (suc (length pre)) rest) one (later more one.valid)

pub inserts_others : InsertsOthers
inserts_others book start is valid =
    let all : Stands (core_of book) = stands (notations_in book) (core_of book) (core_valid book is.valid) is.few in
    inserts start [] (standing_sheets (core_of book)) all.ids all.names all.good valid
