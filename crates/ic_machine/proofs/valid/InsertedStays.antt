-- A book stays valid when a sheet is put in among the others, over which its formulas are kept.
use Rattle.std.proofs.Common.{◌≡◌, ℕ, zero, suc, ◌<◌, List, [], ◌∷◌, ◌++◌, map, length, flat_map, Bool, true, false, arith, Option, Some, None, refl, sym, ap, subst, ◌∙◌, inl, inr}
use Rattle.std.proofs.lemmas.Bool.{cases_Bool, not-false, or_parts}
use Rattle.std.proofs.lemmas.Bool.Decides.{nat_tests}
use Rattle.std.proofs.lemmas.List.{length-map}
use Rattle.std.proofs.lemmas.List.Sorted.{IsPermutation-insert}
use Rattle.std.proofs.lemmas.Map.Keys.{IsDistinct-IsPermutation, IsDistinct-cons}
use Rattle.std.specs.Cmp.{IsEquivalence, nat_eq_equiv}
use Rattle.std.specs.List.{AllByRecursion, IsDistinct, insert, list_any}
use Rattle.std.specs.Option.{option_to_list}
use Rattle.std.specs.Prelude.{is_none, nat_eq, nat_lt, not, unwrap_or}
use Rattle.ic_laws.proofs.CoreLemmas.{above_greatest, agrees_equiv, fresh_is_next}
use Rattle.ic_laws.proofs.core.KeptBook.{valid_definitions}
use Rattle.ic_laws.proofs.core.Lists.{none_passes}
use Rattle.ic_laws.proofs.core.Made.{key, made_valid}
use Rattle.ic_laws.proofs.core.Named.{HasIdentifier, HasSheetName, IsNamed, book_named, named_by}
use Rattle.ic_laws.proofs.kept.TreeFacts.{tree_facts}
use Rattle.ic_laws.specs.CoreBook as core_book
use Rattle.ic_laws.specs.CoreBook.{CoreBook, Definition, IsId, fresh_id, has_sheet, ids_of, last_id, used_ids}
use Rattle.ic_laws.specs.Keeping.{KeyChange, same_keys}
use Rattle.ic_laws.specs.Name.{agrees, is_sheet_name}
use Rattle.ic_laws.specs.Notations.{Notations}
use Rattle.ic_laws.specs.Scene.{same_key}
use Rattle.ic_laws.specs.ValidCore.{IsValidCore, IsValidDefinition}
use Rattle.ic_laws.specs.declared.scene.Scene.{Scene}
use Rattle.ic_laws.specs.declared.scene.SheetName.{SheetName}
use Rattle.ic_tree.proofs.NotationLaws.{notations_are}
use Rattle.ic_grid.specs.Conditions.{AreInSheet}
use Rattle.ic_machine.specs.Book.{Book, Sheet, core_of, core_sheet, empty_sheet, notations_in, scene_in}
use Rattle.ic_machine.specs.Changed.{changed_by}
use Rattle.ic_machine.specs.Content.{held}
use Rattle.ic_machine.specs.Kept.{StaysValid, is_given_id}
use Rattle.ic_machine.specs.Refusal.{Causes, first_refusal}
use Rattle.ic_machine.specs.Valid.{HasCellFormulas, IsValidBook}
use Rattle.ic_machine.specs.subjects.Sheets.{chosen_id, insert_causes, insert_sheet_step, is_live, with_inserted_sheet}
use Rattle.ic_machine.proofs.valid.ChangedStays.{all_hold, all_kept, kept_definitions, kept_sheets, rebuilt, scene_same, seen, seen_kept, spelled_kept, with_parts}
use Rattle.ic_machine.proofs.as_core.CoreValid.{all_sheets, core_valid}
use Rattle.ic_machine.proofs.valid.SheetsStay.{all_inserted, empty_holds}
use Rattle.ic_machine.proofs.valid.ValidLemmas.{HoldsOf, all_of, stays_unless}
use Rattle.ic_laws.proofs.General.{map-map as map_twice, insert-map}

-- lists ----

pub all_mapped : {X : Type 0} (P : X → Type 0) (f : X → X) → ((x : X) → P x → P (f x)) → (xs : List X) → AllByRecursion P xs → AllByRecursion P (map f xs)
all_mapped P f more [] h = tt
all_mapped P f more (x ∷ xs) h = (more x h.0, all_mapped P f more xs h.1)

pub named_cores : (sheets : List Sheet) → AllByRecursion (λ (s : Sheet). is_sheet_name s.name ≡ true) sheets → AllByRecursion HasSheetName (map core_sheet sheets)
named_cores [] h = tt
named_cores (s ∷ sheets) h = (h.0, named_cores sheets h.1)

pub distinct_inserted : {X : Type 0} {same : X → X → Bool} → IsEquivalence same → (xs : List X) (index : ℕ) (x : X) → IsDistinct same xs → list_any (same x) xs ≡ false → IsDistinct same (insert xs index x)
distinct_inserted {X} {same} equiv xs index x d e =
    IsDistinct-IsPermutation same equiv.symm (x ∷ xs) (insert xs index x) (IsPermutation-insert xs index x) (IsDistinct-cons same x xs (none_passes (same x) xs e) d)

pub some_inserted : {X : Type 0} (xs : List X) (index : ℕ) (x : X) → 0 < length (insert xs index x)
some_inserted [] zero x = omega (arith)
some_inserted [] (suc index) x = omega (arith)
some_inserted (y ∷ xs) zero x = omega (arith)
some_inserted (y ∷ xs) (suc index) x = omega (arith)

not_among : (q : ℕ) (ns ms : List ℕ) → list_any (nat_eq q) (ns ++ ms) ≡ false → list_any (nat_eq q) ns ≡ false
not_among q [] ms e = refl
not_among q (x ∷ ns) ms e = elim (cases_Bool (nat_eq q x)) [
  | inl t ↦ let no : true ≡ false = rw t at e in cc
  | inr f ↦ rw f (not_among q ns ms (rw f at e))
]

-- where nothing refuses, no cause holds
pub none_holds : (causes : Causes) → first_refusal causes ≡ None → AllByRecursion (λ cause. cause.0 ≡ false) causes
none_holds [] e = tt
none_holds (cause ∷ causes) e =
    elim (cases_Bool cause.0) [
      | inl t ↦ absurd (let no : Some cause.1 ≡ None = rw t at e in cc)
      | inr f ↦ (f, none_holds causes (rw f at e))
    ]

-- a change that the identity machine may not have ----

module _ (b : Book) (valid : IsValidBook b) (later : Scene) (keys : KeyChange) (sheets : List Sheet) (definitions : List Definition) (same : scene_in (with_parts b sheets definitions) ≡ later) where
  abbrev Hold : List Sheet → Type 0
  Hold all = AllByRecursion (HoldsOf (notations_in b) later (length b.styles)) all

  pub made_stays : 0 < length sheets → (Hold (kept_sheets b valid later keys) → Hold sheets) → AllByRecursion (λ (s : Sheet). IsId s.id) sheets → AllByRecursion (λ (s : Sheet). is_sheet_name s.name ≡ true) sheets
      → AllByRecursion HasIdentifier definitions → (IsNamed later → AllByRecursion (IsValidDefinition (notations_in b) later) definitions) → IsDistinct nat_eq (map (λ (s : Sheet). s.id) sheets)
      → IsDistinct agrees (map (λ (s : Sheet). s.name) sheets) → IsDistinct same_key (map key definitions) → IsValidBook (with_parts b sheets definitions)
  made_stays some puts ids names identifiers bodies ids_differ names_differ keys_differ =
      let n : Notations = notations_in b in
      let core : CoreBook = core_of (with_parts b sheets definitions) in
      let apart : IsDistinct agrees (map (λ (s : core_book.Sheet). s.name) (map core_sheet sheets)) = subst (IsDistinct agrees) (map_twice core_sheet (λ (s : core_book.Sheet). s.name) sheets) names_differ in
      let named : IsNamed later = subst IsNamed same (named_by core (named_cores sheets names) identifiers apart) in
      let holds : Hold sheets =
      puts (all_kept n (notations_are b.tables valid.tables) (scene_in b) later (book_named n (core_of b) (core_valid b valid)) named keys (length b.styles) b.sheets (all_hold b valid)) in
      let Holds : Sheet → Type 0 = HoldsOf n later (length b.styles) in
      rebuilt b valid sheets definitions
      (made_valid n core later same (subst (λ m. 0 < m) (sym (length-map sheets core_sheet)) some)
      (all_sheets n later sheets ids names (all_of Holds (λ (s : Sheet). AreInSheet held s.grid.contents) (λ s h. h.inside) sheets holds) (all_of Holds (HasCellFormulas n later) (λ s h. h.formulas) sheets holds))
      (bodies named) (subst (IsDistinct nat_eq) (map_twice core_sheet (λ (s : core_book.Sheet). s.id) sheets) ids_differ) apart keys_differ valid.locale valid.language)
      (subst (λ (scene : Scene). AllByRecursion (HoldsOf n scene (length b.styles)) sheets) (sym same) holds)

module _ (b : Book) (valid : IsValidBook b) where
  -- definitions with their bodies kept are valid, where the scene after is named
  pub bodies_kept : (later : Scene) → IsNamed later → AllByRecursion (IsValidDefinition (notations_in b) later) (kept_definitions b valid later same_keys)
  bodies_kept later named =
      let n : Notations = notations_in b in
      let core : IsValidCore n (core_of b) = core_valid b valid in
      valid_definitions n (scene_in b) later ((tree_facts n (notations_are b.tables valid.tables)).keeps (scene_in b) later (book_named n (core_of b) core) named) b.definitions core.definitions

  inserted_stays : (index id : ℕ) (name : List ℕ) → is_sheet_name name ≡ true → has_sheet (core_of b) name ≡ false → IsId id → list_any (nat_eq id) (ids_of (core_of b)) ≡ false
      → IsValidBook (changed_by (with_inserted_sheet index id name) b)
  inserted_stays index id name good new fits free =
      let later : Scene = scene_in (with_inserted_sheet index id name b) in
      let kept : List Sheet = kept_sheets b valid later same_keys in
      let bodies : List Definition = kept_definitions b valid later same_keys in
      let sheet : Sheet = empty_sheet id name in
      let mention : SheetName = record { id = id; name = name } in
      let id_of : Sheet → ℕ = λ s. s.id in
      let name_of : Sheet → List ℕ = λ s. s.name in
      let same_ids : map id_of kept ≡ map id_of b.sheets = sym (map_twice _ id_of b.sheets) in
      let same_names : map name_of kept ≡ map name_of b.sheets = sym (map_twice _ name_of b.sheets) in
      let core_ids : ids_of (core_of b) ≡ map id_of b.sheets = sym (map_twice core_sheet (λ (s : core_book.Sheet). s.id) b.sheets) in
      let core_names : map (λ (s : core_book.Sheet). s.name) (core_of b).sheets ≡ map name_of b.sheets = sym (map_twice core_sheet (λ (s : core_book.Sheet). s.name) b.sheets) in
      made_stays b valid later same_keys (insert kept index sheet) bodies
      (scene_same b (insert kept index sheet) (insert b.sheets index sheet) bodies b.definitions
      (insert-map seen kept index sheet ∙ ap (λ ms. insert ms index mention) (seen_kept b valid later same_keys) ∙ sym (insert-map seen b.sheets index sheet)) (spelled_kept b valid later same_keys))
      (some_inserted kept index sheet) (λ holds. all_inserted (HoldsOf (notations_in b) later (length b.styles)) kept index sheet holds (empty_holds b valid later id name))
      (all_inserted (λ (s : Sheet). IsId s.id) kept index sheet (all_mapped (λ (s : Sheet). IsId s.id) _ (λ s h. h) b.sheets valid.sheet_ids.ids) fits)
      (all_inserted (λ (s : Sheet). is_sheet_name s.name ≡ true) kept index sheet (all_mapped (λ (s : Sheet). is_sheet_name s.name ≡ true) _ (λ s h. h) b.sheets valid.sheet_names.names) good)
      (all_mapped HasIdentifier _ (λ d h. h) b.definitions valid.definitions.names)
      (bodies_kept later)
      (subst (IsDistinct nat_eq) (sym (insert-map id_of kept index sheet ∙ ap (λ xs. insert xs index id) same_ids))
      (distinct_inserted nat_eq_equiv (map id_of b.sheets) index id valid.sheet_ids.differ (sym (ap (λ ids. list_any (nat_eq id) ids) core_ids) ∙ free)))
      (subst (IsDistinct agrees) (sym (insert-map name_of kept index sheet ∙ ap (λ xs. insert xs index name) same_names))
      (distinct_inserted agrees_equiv (map name_of b.sheets) index name valid.sheet_names.differ (sym (ap (λ names. list_any (agrees name) names) core_names) ∙ new)))
      (subst (IsDistinct same_key) (map_twice _ key b.definitions) valid.definitions.differ)

  -- the id that a sheet gets, where none of the causes holds
  pub fresh_fits : (o : Option ℕ) → o ≡ fresh_id (core_of b) → is_none o ≡ false → IsId (unwrap_or o 0) × (list_any (nat_eq (unwrap_or o 0)) (ids_of (core_of b)) ≡ false)
  fresh_fits None e some = cc
  fresh_fits (Some id) e some =
      let next = fresh_is_next (core_of b) id e in
      let room = next.0 in
      let is = next.1 in (
        (omega (arith, is, room), omega (arith, is, room)),
        not_among id (ids_of (core_of b)) (flat_map (λ (d : Definition). option_to_list d.scope) b.definitions) (above_greatest id (used_ids (core_of b)) (omega (arith, is))),
      )

  given_fits : (id : ℕ) → not (nat_lt last_id id) ≡ true → nat_eq id 0 ≡ false → IsId id
  given_fits id small some = grind (arith, nat_tests)

  chosen_fits : (id : Option ℕ) → is_given_id id ≡ true → is_live (core_of b) id ≡ false → is_none (chosen_id (core_of b) id) ≡ false
      → IsId (unwrap_or (chosen_id (core_of b) id) 0) × (list_any (nat_eq (unwrap_or (chosen_id (core_of b) id) 0)) (ids_of (core_of b)) ≡ false)
  chosen_fits None small live some = fresh_fits (fresh_id (core_of b)) refl some
  chosen_fits (Some id) small live some = let apart = or_parts (nat_eq id 0) (list_any (nat_eq id) (ids_of (core_of b))) live in (given_fits id small apart.0, apart.1)

  pub insert_stays : (name : List ℕ) (index : ℕ) (id : Option ℕ) → is_given_id id ≡ true → StaysValid (insert_sheet_step name index id b)
  unfolding insert_sheet_step
  insert_stays name index id small =
      stays_unless _ (changed_by (with_inserted_sheet index (unwrap_or (chosen_id (core_of b) id) 0) name) b) []
      (λ e.
      let clear = none_holds (insert_causes b name index id) e in
      let fits = chosen_fits id small clear.1.1.1.0 clear.1.1.1.1.0 in
      inserted_stays index (unwrap_or (chosen_id (core_of b) id) 0) name (not-false (is_sheet_name name) clear.0) clear.1.0 fits.0 fits.1)
