-- A book stays valid when a sheet with a good name and the fresh id is added, over which its formulas are kept.
use Rattle.std.proofs.Common.{◌≡◌, ℕ, ◌+◌, ◌<◌, List, [], ◌∷◌, ◌++◌, map, Bool, true, false, flat_map, refl, ap, sym, subst, ◌∙◌, length-append, arith, nat_eq, inl, inr}
use Rattle.std.specs.List.{IsDistinct, list_any}
use Rattle.std.specs.List.Sorted.{IsStrictlySortedBy}
use Rattle.std.specs.Option.{option_to_list}
use Rattle.std.specs.Cmp.{nat_eq_equiv}
use Rattle.std.proofs.lemmas.Bool.{cases_Bool}
use Rattle.std.proofs.lemmas.List.{map-append}
use Rattle.std.proofs.lemmas.Map.Keys.{IsDistinct-cons, IsDistinct-push}
use Rattle.ic_laws.proofs.CoreLemmas.{above_greatest, agrees_equiv}
use Rattle.ic_laws.proofs.core.KeptBook.{KeepsTrees, in_body, mentioned, on_sheet, same_definitions, same_sheets, valid_definitions, valid_sheets}
use Rattle.ic_laws.proofs.core.Lists.{all_pushed}
use Rattle.ic_laws.proofs.core.Made.{kept_ids, kept_keys, kept_names, made_valid}
use Rattle.ic_laws.specs.CoreBook.{CoreBook, Definition, IsId, Sheet, greatest_id, has_sheet, ids_of, last_id, names_of, place_cmp, scene_of, spelling_of, used_ids}
use Rattle.ic_laws.specs.CoreStep.{changed_by, with_new_sheet}
use Rattle.ic_laws.specs.Greatest.{greatest}
use Rattle.ic_laws.specs.Keeping.{same_keys, with_kept}
use Rattle.ic_laws.specs.Name.{agrees, is_sheet_name}
use Rattle.ic_laws.specs.Notations.{Notations}
use Rattle.ic_laws.specs.Scene.{same_key}
use Rattle.ic_laws.specs.ValidCore.{IsValidCore, IsValidSheet}
use Rattle.ic_laws.specs.declared.scene.NameSpelling.{NameSpelling}
use Rattle.ic_laws.specs.declared.scene.Scene.{Scene}
use Rattle.ic_laws.specs.declared.scene.SheetName.{SheetName}

pub none_ordered : IsStrictlySortedBy place_cmp []
unfolding IsStrictlySortedBy
none_ordered = tt

not_among : (q : ℕ) (ns : List ℕ) (ms : List ℕ) → list_any (nat_eq q) (ns ++ ms) ≡ false → list_any (nat_eq q) ns ≡ false
not_among q [] ms e = refl
not_among q (x ∷ ns) ms e = elim (cases_Bool (nat_eq q x)) [
  | inl t ↦ let no : true ≡ false = rw t at e in cc
  | inr f ↦ rw f (not_among q ns ms (rw f at e))
]

module _ (n : Notations) (book : CoreBook) (name : List ℕ) (valid : IsValidCore n book) (keeps : KeepsTrees n (scene_of book) (scene_of (with_new_sheet name book))) (good : is_sheet_name name ≡ true) (new : has_sheet book name ≡ false) (room : greatest_id book < last_id) where
  abbrev before : Scene
  before = scene_of book

  abbrev later : Scene
  later = scene_of (with_new_sheet name book)

  abbrev kept_sheets : List Sheet
  kept_sheets = map (on_sheet n before later) book.sheets

  abbrev added : CoreBook
  added = changed_by n (with_new_sheet name) book

  -- the ids in use are the same, and so is the fresh one
  scopes_kept : (definitions : List Definition) → flat_map (λ d. option_to_list d.scope) (map (in_body n before later) definitions) ≡ flat_map (λ (d : Definition). option_to_list d.scope) definitions
  scopes_kept [] = refl
  scopes_kept (d ∷ definitions) = ap (λ r. option_to_list d.scope ++ r) (scopes_kept definitions)

  same_fresh : greatest_id (with_kept n before later same_keys book) ≡ greatest_id book
  same_fresh =
      ap (λ ids. greatest (ids ++ flat_map (λ d. option_to_list d.scope) (map (in_body n before later) book.definitions))) (kept_ids n book later)
      ∙ ap (λ scopes. greatest (ids_of book ++ scopes)) (scopes_kept book.definitions)

  abbrev new_id : ℕ
  new_id = greatest_id (with_kept n before later same_keys book) + 1

  abbrev new_sheet : Sheet
  new_sheet = record { id = new_id; name = name; cells = [] }

  new_id_fits : IsId new_id
  new_id_fits = (omega (arith, same_fresh), omega (arith, same_fresh))

  new_id_new : list_any (nat_eq new_id) (ids_of book) ≡ false
  new_id_new = not_among new_id (ids_of book) (flat_map (λ (d : Definition). option_to_list d.scope) book.definitions) (above_greatest new_id (used_ids book) (omega (arith, same_fresh)))

  same_after : scene_of added ≡ later
  same_after =
      ap (λ (x : List SheetName). record { sheets = x; names = map spelling_of (map (in_body n before later) book.definitions) })
      (map-append mentioned kept_sheets (new_sheet ∷ []) ∙ ap (λ x. x ++ record { id = new_id; name = name } ∷ []) (same_sheets n before later mentioned (λ s. refl) book.sheets)
      ∙ ap (λ m. map mentioned book.sheets ++ record { id = m + 1; name = name } ∷ []) same_fresh
      ∙ sym (map-append mentioned book.sheets (record { id = greatest_id book + 1; name = name; cells = [] } ∷ [])))
      ∙ ap (λ (x : List NameSpelling). record { sheets = later.sheets; names = x }) (same_definitions n before later spelling_of (λ d. refl) book.definitions)

  pub added_valid : IsValidCore n added
  added_valid =
      made_valid n added later same_after (omega (arith, length-append kept_sheets (new_sheet ∷ [])))
      (all_pushed (IsValidSheet n later) kept_sheets new_sheet (valid_sheets n before later keeps book.sheets valid.sheets) (record { id = new_id_fits; name = good; ordered = none_ordered; cells = tt }))
      (valid_definitions n before later keeps book.definitions valid.definitions)
      (subst (IsDistinct nat_eq) (sym (map-append (λ (s : Sheet). s.id) kept_sheets (new_sheet ∷ []) ∙ ap (λ ids. ids ++ new_id ∷ []) (kept_ids n book later))) (IsDistinct-push nat_eq_equiv (ids_of book) new_id valid.ids_differ new_id_new))
      (subst (IsDistinct agrees) (sym (map-append (λ (s : Sheet). s.name) kept_sheets (new_sheet ∷ []) ∙ ap (λ names. names ++ name ∷ []) (kept_names n book later))) (IsDistinct-push agrees_equiv (names_of book) name valid.names_differ new))
      (subst (IsDistinct same_key) (sym (kept_keys n book later)) valid.keys_differ)
      valid.locale valid.language

distinct_none : {K : Type 0} (same : K → K → Bool) → IsDistinct same []
unfolding IsDistinct
distinct_none same = tt

-- a book of one sheet, which has the id 1 and no formulas, and no definitions is valid
pub one_sheet_valid : (n : Notations) (name locale language : List ℕ) → is_sheet_name name ≡ true → n.knows_locale locale ≡ true → n.knows_language language ≡ true
    → IsValidCore n (record { sheets = record { id = 1; name = name; cells = [] } ∷ []; definitions = []; locale = locale; language = language })
one_sheet_valid n name locale language good l g = record {
  some_sheet = omega arith;
  few = omega arith;
  sheets = (record { id = (omega arith, omega arith); name = good; ordered = none_ordered; cells = tt }, tt);
  definitions = tt;
  ids_differ = IsDistinct-cons nat_eq 1 [] tt (distinct_none nat_eq);
  names_differ = IsDistinct-cons agrees name [] tt (distinct_none agrees);
  keys_differ = distinct_none same_key;
  locale = l;
  language = g;
}
