-- What the words of copied formulas mean.
use Rattle.std.proofs.Common.{◌≡◌, ◌⊎◌, ℕ, pos, ◌+◌, ◌<◌, length, arith, IsSome, is_some, List, [], ◌∷◌, ◌++◌, map, Bool, true, false, cond, ◌&&◌, ◌||◌, Option, Some, None, Ok, refl, sym, ap, ap₂, subst, ◌∙◌, inl, inr, if◌then◌else◌}
use Rattle.std.proofs.lemmas.Bool.{and_from, and_parts, and_right, both_ways, cases_Bool, eqb-true, or_right}
use Rattle.std.proofs.lemmas.List.{length-map, map-append}
use Rattle.std.proofs.lemmas.List.Folds.{find-append, list_any-append}
use Rattle.std.proofs.lemmas.Option.{slice_get_within}
use Rattle.std.proofs.lemmas.Slice.Eq.{bytes_eq-Decides}
use Rattle.std.specs.Cmp.{nat_eq_equiv}
use Rattle.std.specs.Fmt.{decimal}
use Rattle.std.specs.List.{AllByRecursion, AllZip, find, insert, list_any, slice_get}
use Rattle.std.specs.Option.{option_or}
use Rattle.std.specs.Prelude.{bytes_eq, is_none, nat_eq, option_map, unwrap_or}
use Rattle.ic_laws.proofs.binding.SceneLemmas.{find_here, find_later, found_by_other, found_by_text, found_has_definition, folds_to_key, local_is_found, same_scope_self}
use Rattle.ic_laws.proofs.core.KeptBook.{mentioned}
use Rattle.ic_laws.proofs.keeping.NameChanges.{same_scope_from}
use Rattle.ic_laws.proofs.kept.Kept.{english_by_fold}
use Rattle.ic_laws.specs.Binding.{Binders, RespectsFolding, bound, bound_local, bound_sheet, bound_word, is_bound_by, name_or_dangling, sheet_or_dangling, spelled, spelled_sheet, spelled_with, spelled_word}
use Rattle.ic_laws.specs.CoreBook as core_book
use Rattle.ic_laws.specs.CoreBook.{Definition, fresh_id, ids_of, spelling_of}
use Rattle.ic_laws.specs.Changes.{is_of_sheet}
use Rattle.ic_laws.specs.Keeping.{same_keys}
use Rattle.ic_laws.specs.Mentions.{LocalMention}
use Rattle.ic_laws.specs.Name.{agrees, fold}
use Rattle.ic_laws.specs.Notations.{Notations, english_function}
use Rattle.ic_laws.specs.Scene.{definition_at, found_name, found_sheet, key_found, key_of, local_key, name_of_key, name_of_sheet, definition_spelling, same_scope, sheet_spelling}
use Rattle.ic_laws.specs.Tree.{Bound}
use Rattle.ic_laws.specs.ValidCore.{IsKeptBody, IsKeptFormula, IsPooled}
use Rattle.ic_laws.specs.declared.scene.NameSpelling.{NameSpelling}
use Rattle.ic_laws.specs.declared.scene.Scene.{Scene}
use Rattle.ic_laws.specs.declared.scene.SheetName.{SheetName}
use Rattle.ic_laws.specs.declared.tree.Formula.{Formula}
use Rattle.ic_laws.specs.declared.tree.Formula.TheVariants as formulas
use Rattle.ic_laws.specs.declared.tree.NameKey.{NameKey}
use Rattle.ic_laws.specs.declared.tree.NameMention.{NameMention}
use Rattle.ic_laws.specs.declared.tree.NameMention.TheVariants as names
use Rattle.ic_laws.specs.declared.tree.SheetMention.{SheetMention}
use Rattle.ic_laws.specs.declared.tree.SheetMention.TheVariants as sheets
use Rattle.ic_tree.proofs.NotationLaws.{notations_are}
use Rattle.ic_machine.specs.Binds.{CopiedMeansSame, HasCopiedMentions, copied_local, copied_sheet, copied_word, copying_of, is_copied, key_in_copy, locals_in, plain_words_in, sheets_in}
use Rattle.ic_machine.specs.Book.{Book, Sheet, core_of, core_sheet, found_or, notations_in, scene_in}
use Rattle.ic_machine.specs.Refusal.{IdsUsedUp, InvalidSheet, first_refusal}
use Rattle.ic_machine.specs.Valid.{IsKeptPool, IsValidBook}
use Rattle.ic_machine.specs.subjects.Sheets.{copied_of, copies_of_definitions, copy_id, copy_of_sheet, copy_spelling, definitions_moved, duplicate_sheet_step, duplicated, formula_copied, local_in, local_to, mentions_sheet, named_fields, name_of_copy, scene_with_copy, shared_about, with_copy, with_formula}
use Rattle.ic_machine.specs.Changed.{changed_by, with_kept_formulas}
use Rattle.ic_machine.proofs.valid.ChangedStays.{seen}
use Rattle.ic_machine.proofs.bound.CopiedBinds.{or_none, unfound}
use Rattle.ic_machine.proofs.bound.CopyKeys.{all_appended, all_filtered, all_in_map, no_scope}
use Rattle.ic_machine.proofs.valid.DuplicatedStays.{has_copy, has_key, has_old, named, parts, seen_later}
use Rattle.ic_machine.proofs.bound.InsertedBinds.{accepted, find_inserted, mapped_choice}
use Rattle.ic_machine.proofs.valid.InsertedStays.{none_holds}
use Rattle.ic_machine.proofs.bound.UpdatedBinds.{zip_mapped}
use Rattle.ic_machine.proofs.valid.ValidLemmas.{all_at}
use Rattle.ic_machine.proofs.bound.WordLemmas.{locals_become, mapped_zip, plain_words_become, sheets_become}
use Rattle.ic_laws.proofs.keeping.Moves.{insert_place as got_inserted}
use Rattle.ic_laws.proofs.General.{map-map as map_twice}

abbrev is_at : List ℕ → Option ℕ → NameSpelling → Bool
is_at folded scope m = bytes_eq (fold m.name) folded && same_scope m.scope scope

-- definitions that are local to the copy are found from it by their names
local_found : (copy : ℕ) (folded : List ℕ) (global : Option NameSpelling) (ds : List Definition)
    → option_map key_of (option_or (find (is_at folded (Some copy)) (map spelling_of (map (local_in copy) ds))) global) ≡ (if is_copied ds folded then Some (key_in_copy copy folded) else option_map key_of global)
local_found copy folded global [] = refl
local_found copy folded global (d ∷ ds) =
    let m : NameSpelling = record { name = d.name; scope = Some copy } in
    elim (cases_Bool (bytes_eq (fold d.name) folded)) [
      | inl t ↦
          ap (λ (o : Option NameSpelling). option_map key_of (option_or o global)) (find_here (is_at folded (Some copy)) m (map spelling_of (map (local_in copy) ds)) (and_from (bytes_eq (fold d.name) folded) (same_scope (Some copy) (Some copy)) t (same_scope_self (Some copy))))
          ∙ ap (λ (name : List ℕ). Some (key_in_copy copy name)) ((bytes_eq-Decides (fold d.name) folded).0 t)
          ∙ sym (ap (λ (c : Bool). if c || is_copied ds folded then Some (key_in_copy copy folded) else option_map key_of global) t)
      | inr f ↦
          ap (λ (o : Option NameSpelling). option_map key_of (option_or o global)) (find_later (is_at folded (Some copy)) m (map spelling_of (map (local_in copy) ds)) (ap (λ (c : Bool). c && same_scope (Some copy) (Some copy)) f))
          ∙ local_found copy folded global ds
          ∙ sym (ap (λ (c : Bool). if c || is_copied ds folded then Some (key_in_copy copy folded) else option_map key_of global) f)
    ]

-- one that is found from a sheet as local to it is one of those that are local to it
local_has : (id : ℕ) (folded : List ℕ) (x : NameSpelling) (ds : List Definition) → find (is_at folded (Some id)) (map spelling_of ds) ≡ Some x → list_any (λ (d : Definition). bytes_eq (fold d.name) folded) (local_to id ds) ≡ true
local_has id folded x [] e = cc
local_has id folded x (d ∷ ds) e = by_test (bytes_eq (fold d.name) folded) (same_scope d.scope (Some id)) refl refl (local_has id folded x ds)
  where
    test : Definition → Bool
    test y = bytes_eq (fold y.name) folded

    later : is_at folded (Some id) (spelling_of d) ≡ false → find (is_at folded (Some id)) (map spelling_of ds) ≡ Some x
    later f = sym (find_later (is_at folded (Some id)) (spelling_of d) (map spelling_of ds) f) ∙ e

    by_test : (t s : Bool) → bytes_eq (fold d.name) folded ≡ t → same_scope d.scope (Some id) ≡ s
        → (find (is_at folded (Some id)) (map spelling_of ds) ≡ Some x → list_any test (local_to id ds) ≡ true) → list_any test (cond s (d ∷ local_to id ds) (local_to id ds)) ≡ true
    by_test t false p q rest = rest (later (and_right (bytes_eq (fold d.name) folded) (same_scope d.scope (Some id)) q))
    by_test true true p q rest = ap (λ (c : Bool). c || list_any test (local_to id ds)) p
    by_test false true p q rest = or_right (bytes_eq (fold d.name) folded) (list_any test (local_to id ds)) (rest (later (ap (λ (a : Bool). a && same_scope d.scope (Some id)) p)))

module _ (b : Book) (valid : IsValidBook b) (index : ℕ) (source : Sheet) (at : slice_get b.sheets index ≡ Some source) (room : is_none (fresh_id (core_of b)) ≡ false) where
  abbrev n : Notations
  n = notations_in b

  abbrev id : ℕ
  id = copy_id b index source

  abbrev copied : List Definition
  copied = copied_of source.id b.definitions

  abbrev before : Scene
  before = scene_in b

  abbrev later : Scene
  later = scene_with_copy b index source

  -- the scope of the sheet, or none
  abbrev IsSource : Option ℕ → Type 0
  IsSource scope = (scope ≡ None) ⊎ (scope ≡ Some source.id)

  names_are : later.names ≡ before.names ++ map spelling_of (definitions_moved b index source)
  names_are = map-append spelling_of b.definitions (definitions_moved b index source)

  -- what is local to the copy
  local_there : (folded : List ℕ) → definition_at later folded (Some id) ≡ find (is_at folded (Some id)) (map spelling_of (definitions_moved b index source))
  local_there folded =
      ap (find (is_at folded (Some id))) names_are ∙ find-append (is_at folded (Some id)) before.names (map spelling_of (definitions_moved b index source))
      ∙ ap (λ (o : Option NameSpelling). option_or o (find (is_at folded (Some id)) (map spelling_of (definitions_moved b index source)))) (unfound folded (Some id) before.names unseen)
    where
      unseen : AllByRecursion (λ (m : NameSpelling). same_scope m.scope (Some id) ≡ false) before.names
      unseen = all_in_map spelling_of (λ (m : NameSpelling). same_scope m.scope (Some id) ≡ false) b.definitions (no_scope source.id id b.definitions (parts b valid index source at room).1)

  -- what a name finds from the copy
  copy_finds : (folded : List ℕ) → key_found later (Some id) folded ≡ (if is_copied copied folded then Some (key_in_copy id folded) else option_map key_of (definition_at before folded None))
  copy_finds folded =
      ap₂ (λ (local global : Option NameSpelling). option_map key_of (option_or local global)) local global ∙ local_found id folded (definition_at before folded None) copied
    where
      moved : List NameSpelling
      moved = map spelling_of (definitions_moved b index source)

      of_copy : AllByRecursion (λ (m : NameSpelling). same_scope m.scope None ≡ false) moved
      of_copy =
          all_in_map spelling_of (λ (m : NameSpelling). same_scope m.scope None ≡ false) (definitions_moved b index source)
          (all_in_map (local_in id) (λ (d : Definition). same_scope d.scope None ≡ false) copied (each copied))
        where
          each : (ds : List Definition) → AllByRecursion (λ (d : Definition). same_scope (local_in id d).scope None ≡ false) ds
          each [] = tt
          each (d ∷ ds) = (refl, each ds)

      local : definition_at later folded (Some id) ≡ find (is_at folded (Some id)) moved
      local = local_there folded

      global : definition_at later folded None ≡ definition_at before folded None
      global =
          ap (find (is_at folded None)) names_are ∙ find-append (is_at folded None) before.names moved ∙ ap (option_or (definition_at before folded None)) (unfound folded None moved of_copy)
          ∙ or_none (definition_at before folded None)

  local_copied : (folded : List ℕ) (x : NameSpelling) → definition_at before folded (Some source.id) ≡ Some x → is_copied copied folded ≡ true
  local_copied folded x e =
      list_any-append (λ (d : Definition). bytes_eq (fold d.name) folded) (local_to source.id b.definitions) (shared_about source.id b.definitions)
      ∙ ap (λ (c : Bool). c || list_any (λ (d : Definition). bytes_eq (fold d.name) folded) (shared_about source.id b.definitions)) (local_has source.id folded x b.definitions e)

  -- what was found and is not of a copied definition is for all sheets
  for_all : (scope : Option ℕ) → IsSource scope → (k : NameKey) (folded : List ℕ) → key_found before scope folded ≡ Some k → is_copied copied folded ≡ false → option_map key_of (definition_at before folded None) ≡ Some k
  for_all scope is k folded e none = go (definition_at before folded scope) refl e
    where
      go : (local : Option NameSpelling) → definition_at before folded scope ≡ local → option_map key_of (option_or local (definition_at before folded None)) ≡ Some k → option_map key_of (definition_at before folded None) ≡ Some k
      go None f g = g
      go (Some x) f g = elim is [
        | inl s ↦ ap (λ (o : Option ℕ). option_map key_of (definition_at before folded o)) (sym s) ∙ ap (option_map key_of) f ∙ g
        | inr s ↦
            absurd (let no : true ≡ false = sym (local_copied folded x (ap (definition_at before folded) (sym s) ∙ f)) ∙ none in cc)
      ]

  -- a sheet of the book with the copy is found by how it is written
  found_again : (i : ℕ) → IsSome (name_of_sheet later i) → found_sheet later (sheet_spelling later i) ≡ Some i
  found_again i some = of_sheet (find (λ (m : SheetName). nat_eq m.id i) later.sheets) refl some
    where
      of_sheet : (o : Option SheetName) → find (λ (m : SheetName). nat_eq m.id i) later.sheets ≡ o → IsSome (option_map (λ (m : SheetName). m.name) o) → found_sheet later (sheet_spelling later i) ≡ Some i
      of_sheet None e h = let no : false ≡ true = h in cc
      of_sheet (Some m) e h = found_by_text later (named b valid index source at room).differ i m (decimal i) e

  sheet_becomes : (name : Option (List ℕ)) → bound_sheet later (spelled_sheet (copy_spelling later source.id id) (bound_sheet before name)) ≡ copied_sheet (copying_of b index source) (bound_sheet before name)
  sheet_becomes None = refl
  sheet_becomes (Some typed) = of_found (find (λ (m : SheetName). agrees m.name typed) before.sheets) refl
    where
      either : (c : Bool) → sheet_or_dangling typed (if c then Some id else None) ≡ (if c then sheets.Sheet id else sheets.Dangling typed)
      either true = refl
      either false = refl

      of_id : (i : ℕ) → IsSome (name_of_sheet before i) → (c : Bool) → sheet_or_dangling (sheet_spelling later (if c then id else i)) (found_sheet later (sheet_spelling later (if c then id else i))) ≡ sheets.Sheet (if c then id else i)
      of_id i some true = ap (sheet_or_dangling (sheet_spelling later id)) (found_again id (has_copy b valid index source at room))
      of_id i some false = ap (sheet_or_dangling (sheet_spelling later i)) (found_again i (has_old b valid index source at room i some))

      there : (m : SheetName) → find (λ (x : SheetName). agrees x.name typed) before.sheets ≡ Some m → IsSome (name_of_sheet before m.id)
      there m e =
          let y = found_by_other (λ (x : SheetName). agrees x.name typed) (λ (x : SheetName). nat_eq x.id m.id) before.sheets m e (nat_eq_equiv.refl m.id) in
          ap (λ (o : Option SheetName). is_some (option_map (λ (x : SheetName). x.name) o)) y.1

      copy_found : (typed : List ℕ) → find (λ (m : SheetName). agrees m.name typed) before.sheets ≡ None
          → option_map (λ (m : SheetName). m.id) (find (λ (m : SheetName). agrees m.name typed) (insert (map seen b.sheets) (index + 1) (seen (copy_of_sheet b index source)))) ≡ (if agrees (name_of_copy b source.name) typed then Some id else None)
      copy_found typed e =
          ap (option_map (λ (m : SheetName). m.id))
          (find_inserted (λ (m : SheetName). agrees m.name typed) (map seen b.sheets) (index + 1) (seen (copy_of_sheet b index source))
          (sym (ap (find (λ (m : SheetName). agrees m.name typed)) (sym (map_twice core_sheet (λ (s : core_book.Sheet). let m : SheetName = record { id = s.id; name = s.name } in m) b.sheets))) ∙ e))
          ∙ mapped_choice (seen (copy_of_sheet b index source)) (agrees (name_of_copy b source.name) typed)

      of_found : (o : Option SheetName) → find (λ (m : SheetName). agrees m.name typed) before.sheets ≡ o
          → bound_sheet later (spelled_sheet (copy_spelling later source.id id) (sheet_or_dangling typed (option_map (λ (m : SheetName). m.id) o))) ≡ copied_sheet (copying_of b index source) (sheet_or_dangling typed (option_map (λ (m : SheetName). m.id) o))
      of_found None e =
          ap (sheet_or_dangling typed)
          (ap (λ (ms : List SheetName). option_map (λ (m : SheetName). m.id) (find (λ (m : SheetName). agrees m.name typed) ms)) (seen_later b valid index source at room)
          ∙ copy_found typed e)
          ∙ either (agrees (name_of_copy b source.name) typed)
      of_found (Some m) e = of_id m.id (there m e) (nat_eq m.id source.id)

  abbrev key_text : NameKey → List ℕ
  key_text = definition_spelling later

  spelled_at : (scope : Option ℕ) (word : List ℕ) (k : NameKey) → found_name before scope word ≡ Some k → fold (key_text k) ≡ fold word
  spelled_at scope word k e =
      let has = found_has_definition before scope (fold word) k e in
      of_later k has.same (definition_at later k.name k.scope) refl (has_key b valid index source at room k (ap (λ (o : Option NameSpelling). is_some (option_map (λ (m : NameSpelling). m.name) o)) has.found))
    where
      of_later : (k : NameKey) → k.name ≡ fold word → (o : Option NameSpelling) → definition_at later k.name k.scope ≡ o → IsSome (name_of_key later k) → fold (key_text k) ≡ fold word
      of_later k same None f some = absurd (let no : false ≡ true = sym (ap (λ (o : Option NameSpelling). is_some (option_map (λ (m : NameSpelling). m.name) o)) f) ∙ some in cc)
      of_later k same (Some d) f some =
          ap (λ (o : Option NameSpelling). fold (unwrap_or (option_map (λ (m : NameSpelling). m.name) o) k.name)) f ∙ folds_to_key later k.name k.scope d f ∙ same

  -- what a name with the copy's sheet finds
  copy_local : (folded : List ℕ) → local_key later id folded ≡ (if is_copied copied folded then Some (key_in_copy id folded) else None)
  copy_local folded = ap (option_map key_of) (local_there folded ∙ sym (or_none (find (is_at folded (Some id)) (map spelling_of (definitions_moved b index source))))) ∙ local_found id folded None copied

  -- and with another sheet
  other_local : (i : ℕ) (folded : List ℕ) → nat_eq i id ≡ false → local_key later i folded ≡ local_key before i folded
  other_local i folded other =
      ap (option_map key_of)
      (ap (find (is_at folded (Some i))) names_are ∙ find-append (is_at folded (Some i)) before.names (map spelling_of (definitions_moved b index source))
      ∙ ap (option_or (definition_at before folded (Some i))) (unfound folded (Some i) (map spelling_of (definitions_moved b index source)) elsewhere) ∙ or_none (definition_at before folded (Some i)))
    where
      elsewhere : AllByRecursion (λ (m : NameSpelling). same_scope m.scope (Some i) ≡ false) (map spelling_of (definitions_moved b index source))
      elsewhere =
          all_in_map spelling_of (λ (m : NameSpelling). same_scope m.scope (Some i) ≡ false) (definitions_moved b index source)
          (all_in_map (local_in id) (λ (d : Definition). same_scope d.scope (Some i) ≡ false) copied (each copied))
        where
          each : (ds : List Definition) → AllByRecursion (λ (d : Definition). same_scope (local_in id d).scope (Some i) ≡ false) ds
          each [] = tt
          each (d ∷ ds) = (nat_eq_equiv.symm id i ∙ other, each ds)

  -- the sheet of the copy is a new one
  new_id : (m : SheetName) (typed : List ℕ) → find (λ (x : SheetName). agrees x.name typed) before.sheets ≡ Some m → nat_eq m.id id ≡ false
  new_id m typed e = elim (cases_Bool (nat_eq m.id id)) [
    | inl t ↦
        absurd
        (both_ways (list_any (nat_eq id) (ids_of (core_of b))) (parts b valid index source at room).0
        (ap (λ (i : ℕ). list_any (nat_eq i) (ids_of (core_of b))) (sym (eqb-true m.id id t)) ∙ listed (core_of b).sheets m e))
    | inr f ↦ f
  ]
    where
      listed : (ss : List core_book.Sheet) (m : SheetName) → find (λ (x : SheetName). agrees x.name typed) (map mentioned ss) ≡ Some m → list_any (nat_eq m.id) (map (λ (s : core_book.Sheet). s.id) ss) ≡ true
      listed [] m e = cc
      listed (s ∷ ss) m e = step (agrees s.name typed) e (listed ss m)
        where
          step : (c : Bool) → cond c (Some (mentioned s)) (find (λ (x : SheetName). agrees x.name typed) (map mentioned ss)) ≡ Some m
              → (find (λ (x : SheetName). agrees x.name typed) (map mentioned ss) ≡ Some m → list_any (nat_eq m.id) (map (λ (x : core_book.Sheet). x.id) ss) ≡ true)
              → (nat_eq m.id s.id || list_any (nat_eq m.id) (map (λ (x : core_book.Sheet). x.id) ss)) ≡ true
          step true e rest =
              let same : mentioned s ≡ m = cc in
              ap (λ (c : Bool). c || list_any (nat_eq m.id) (map (λ (x : core_book.Sheet). x.id) ss)) (ap (λ (x : SheetName). nat_eq x.id s.id) (sym same) ∙ nat_eq_equiv.refl s.id)
          step false e rest = or_right (nat_eq m.id s.id) (list_any (nat_eq m.id) (map (λ (x : core_book.Sheet). x.id) ss)) (rest e)

  abbrev local_text : NameMention → List ℕ
  local_text m = spelled_word key_text m

  -- what a word with the sheet of the copy means
  in_copy : (word : List ℕ) → bound_local later (sheets.Sheet id) word ≡ copied_word id copied (names.Dangling word)
  in_copy word = ap (name_or_dangling word) (copy_local (fold word)) ∙ either (is_copied copied (fold word))
    where
      either : (c : Bool) → name_or_dangling word (if c then Some (key_in_copy id (fold word)) else None) ≡ (if c then names.Name (key_in_copy id (fold word)) else names.Dangling word)
      either true = refl
      either false = refl

  -- one with the sheet that is copied
  of_source : (word : List ℕ) (o : Option NameSpelling) → definition_at before (fold word) (Some source.id) ≡ o
      → bound_local later (sheets.Sheet id) (local_text (name_or_dangling word (option_map key_of o))) ≡ copied_word id copied (name_or_dangling word (option_map key_of o))
  of_source word None e = in_copy word
  of_source word (Some x) e =
      let k : NameKey = key_of x in
      let found : found_name before (Some source.id) word ≡ Some k = local_is_found before source.id (fold word) k (ap (option_map key_of) e) in
      let same : k.name ≡ fold word = (found_has_definition before (Some source.id) (fold word) k found).same in
      let there : is_copied copied (fold word) ≡ true = local_copied (fold word) x e in
      ap (λ (folded : List ℕ). name_or_dangling (key_text k) (local_key later id folded)) (spelled_at (Some source.id) word k found)
      ∙ ap (name_or_dangling (key_text k)) (copy_local (fold word) ∙ ap (λ (c : Bool). if c then Some (key_in_copy id (fold word)) else None) there)
      ∙ sym (ap (λ (folded : List ℕ). if is_copied copied folded then names.Name (key_in_copy id folded) else names.Name k) same ∙ ap (λ (c : Bool). if c then names.Name (key_in_copy id (fold word)) else names.Name k) there)

  -- one with another sheet
  of_other : (i : ℕ) (word : List ℕ) → nat_eq i id ≡ false → (o : Option NameKey) → local_key before i (fold word) ≡ o
      → bound_local later (sheets.Sheet i) (local_text (name_or_dangling word o)) ≡ name_or_dangling word o
  of_other i word other None e = ap (name_or_dangling word) (other_local i (fold word) other ∙ e)
  of_other i word other (Some k) e =
      ap (λ (folded : List ℕ). name_or_dangling (key_text k) (local_key later i folded)) (spelled_at (Some i) word k (local_is_found before i (fold word) k e))
      ∙ ap (name_or_dangling (key_text k)) (other_local i (fold word) other ∙ e)

  abbrev LocalBecomes : SheetMention → NameMention → Type 0
  LocalBecomes s m = bound_local later (copied_sheet (copying_of b index source) s) (local_text m) ≡ (if is_of_sheet id (copied_sheet (copying_of b index source) s) then copied_word id copied m else m)

  word_of_local : (name : Option (List ℕ)) (word : List ℕ) → LocalBecomes (bound_sheet before name) (bound_local before (bound_sheet before name) word)
  word_of_local None word = refl
  word_of_local (Some typed) word = of_found (find (λ (m : SheetName). agrees m.name typed) before.sheets) refl
    where
      of_dangling : (c : Bool) → bound_local later (if c then sheets.Sheet id else sheets.Dangling typed) word
          ≡ (if is_of_sheet id (if c then sheets.Sheet id else sheets.Dangling typed) then copied_word id copied (names.Dangling word) else names.Dangling word)
      of_dangling true = in_copy word ∙ sym (ap (λ (c : Bool). if c then copied_word id copied (names.Dangling word) else names.Dangling word) (nat_eq_equiv.refl id))
      of_dangling false = refl

      of_sheet : (i : ℕ) → nat_eq i id ≡ false → (c : Bool) → nat_eq i source.id ≡ c
          → bound_local later (sheets.Sheet (if c then id else i)) (local_text (bound_local before (sheets.Sheet i) word))
          ≡ (if is_of_sheet id (sheets.Sheet (if c then id else i)) then copied_word id copied (bound_local before (sheets.Sheet i) word) else bound_local before (sheets.Sheet i) word)
      of_sheet i other true e =
          subst
          (λ (j : ℕ). bound_local later (sheets.Sheet id) (local_text (bound_local before (sheets.Sheet j) word))
          ≡ (if is_of_sheet id (sheets.Sheet id) then copied_word id copied (bound_local before (sheets.Sheet j) word) else bound_local before (sheets.Sheet j) word))
          (sym (eqb-true i source.id e))
          (of_source word (definition_at before (fold word) (Some source.id)) refl
          ∙ sym (ap (λ (c : Bool). if c then copied_word id copied (bound_local before (sheets.Sheet source.id) word) else bound_local before (sheets.Sheet source.id) word) (nat_eq_equiv.refl id)))
      of_sheet i other false e =
          of_other i word other (local_key before i (fold word)) refl
          ∙ sym (ap (λ (c : Bool). if c then copied_word id copied (bound_local before (sheets.Sheet i) word) else bound_local before (sheets.Sheet i) word) other)

      of_found : (o : Option SheetName) → find (λ (m : SheetName). agrees m.name typed) before.sheets ≡ o
          → LocalBecomes (sheet_or_dangling typed (option_map (λ (m : SheetName). m.id) o)) (bound_local before (sheet_or_dangling typed (option_map (λ (m : SheetName). m.id) o)) word)
      of_found None e = of_dangling (agrees (name_of_copy b source.name) typed)
      of_found (Some m) e = of_sheet m.id (new_id m typed e) (nat_eq m.id source.id) refl

  local_becomes : (name : Option (List ℕ)) (word : List ℕ)
      → let sheet : SheetMention = bound_sheet before name in let found : SheetMention = bound_sheet later (spelled_sheet (copy_spelling later source.id id) sheet) in
      ◌≡◌ {A = LocalMention} (found, bound_local later found (local_text (bound_local before sheet word))) (copied_local (copying_of b index source) (sheet, bound_local before sheet word))
  local_becomes name word =
      let sheet : SheetMention = bound_sheet before name in
      ap (λ (s : SheetMention). let m : LocalMention = (s, bound_local later s (local_text (bound_local before sheet word))) in m) (sheet_becomes name)
      ∙ ap (λ (w : NameMention). let m : LocalMention = (copied_sheet (copying_of b index source) sheet, w) in m) (word_of_local name word)

  module _ (scope : Option ℕ) (is : IsSource scope) where
    abbrev mention : Bool → List ℕ → Option NameKey → NameMention
    mention c word found = if c then names.Var word else name_or_dangling word found

    spelled_same : (word : List ℕ) (k : NameKey) → found_name before scope word ≡ Some k → fold (key_text k) ≡ fold word
    spelled_same word k e = spelled_at scope word k e

    mention_same : (binders : Binders) (word : List ℕ) → fold (spelled_word key_text (bound_word before scope binders word)) ≡ fold word
    mention_same binders word = go (is_bound_by binders word) (found_name before scope word) refl
      where
        go : (c : Bool) (found : Option NameKey) → found_name before scope word ≡ found → fold (spelled_word key_text (mention c word found)) ≡ fold word
        go true found e = refl
        go false None e = refl
        go false (Some k) e = spelled_same word k e

    abbrev Becomes : Option NameMention → Option NameMention → Type 0
    Becomes m u = u ≡ option_map (copied_word id copied) m

    word_becomes : (binders : Binders) (word : List ℕ) → Becomes (Some (bound_word before scope binders word)) (Some (bound_word later (Some id) binders (spelled_word key_text (bound_word before scope binders word))))
    word_becomes binders word = ap (λ (m : NameMention). Some m) (go (is_bound_by binders word) refl (found_name before scope word) refl)
      where
        dangling : (c : Bool) → name_or_dangling word (if c then Some (key_in_copy id (fold word)) else None) ≡ (if c then names.Name (key_in_copy id (fold word)) else names.Dangling word)
        dangling true = refl
        dangling false = refl

        global_none : key_found before scope (fold word) ≡ None → option_map key_of (definition_at before (fold word) None) ≡ None
        global_none e = of_local (definition_at before (fold word) scope) e
          where
            of_local : (o : Option NameSpelling) → option_map key_of (option_or o (definition_at before (fold word) None)) ≡ None → option_map key_of (definition_at before (fold word) None) ≡ None
            of_local None f = f
            of_local (Some x) f = cc

        named : (k : NameKey) (spelling : List ℕ) → k.name ≡ fold word → key_found before scope (fold word) ≡ Some k → (c : Bool) → is_copied copied (fold word) ≡ c
            → name_or_dangling spelling (if c then Some (key_in_copy id (fold word)) else option_map key_of (definition_at before (fold word) None)) ≡ (if c then names.Name (key_in_copy id (fold word)) else names.Name k)
        named k spelling same e true f = refl
        named k spelling same e false f = ap (name_or_dangling spelling) (for_all scope is k (fold word) e f)

        go : (c : Bool) → is_bound_by binders word ≡ c → (found : Option NameKey) → found_name before scope word ≡ found
            → bound_word later (Some id) binders (spelled_word key_text (mention c word found)) ≡ copied_word id copied (mention c word found)
        go true e found f = ap (λ (c : Bool). mention c word (found_name later (Some id) word)) e
        go false e None f =
            ap (λ (c : Bool). mention c word (found_name later (Some id) word)) e
            ∙ ap (name_or_dangling word) (copy_finds (fold word) ∙ ap (λ (o : Option NameKey). if is_copied copied (fold word) then Some (key_in_copy id (fold word)) else o) (global_none f))
            ∙ dangling (is_copied copied (fold word))
        go false e (Some k) f =
            let spelling : List ℕ = key_text k in
            let folds : fold spelling ≡ fold word = spelled_same word k f in
            let same : k.name ≡ fold word = (found_has_definition before scope (fold word) k f).same in
            ap (λ (c : Bool). mention c spelling (found_name later (Some id) spelling)) (ap (λ w. list_any (λ (variable : List ℕ). bytes_eq (fold variable) w) binders) folds ∙ e)
            ∙ ap (name_or_dangling spelling) (ap (key_found later (Some id)) folds ∙ copy_finds (fold word))
            ∙ named k spelling same f (is_copied copied (fold word)) refl
            ∙ ap (λ (w : List ℕ). if is_copied copied w then names.Name (key_in_copy id w) else names.Name k) (sym same)

    called_becomes : RespectsFolding (english_function n) → (binders : Binders) (word : List ℕ) (number : ℕ) → english_function n word ≡ None
        → english_function n (spelled_word key_text (bound_word before scope binders word)) ≡ Some number → Becomes (Some (bound_word before scope binders word)) None
    called_becomes by_fold binders word number none some =
        absurd (let no : None ≡ Some number = sym none ∙ sym (by_fold (spelled_word key_text (bound_word before scope binders word)) word (mention_same binders word)) ∙ some in cc)

    tree_becomes : (t : Bound) → bound (english_function n) before scope (spelled before t) ≡ t → plain_words_in (bound (english_function n) later (Some id) (spelled_with (copy_spelling later source.id id) key_text t)) ≡ map (option_map (copied_word id copied)) (plain_words_in t)
    tree_becomes t settled =
        mapped_zip (option_map (copied_word id copied)) (plain_words_in t) (plain_words_in (bound (english_function n) later (Some id) (spelled_with (copy_spelling later source.id id) key_text t)))
        (subst (λ (u : Bound). AllZip Becomes (plain_words_in u) (plain_words_in (bound (english_function n) later (Some id) (spelled_with (copy_spelling later source.id id) key_text u)))) settled
        (plain_words_become (english_function n) scope (Some id) before later (copy_spelling later source.id id) key_text Becomes
        (record { word = word_becomes; none = refl; called = called_becomes (english_by_fold n (notations_are b.tables valid.tables)) }) (spelled before t)))

    sheets_copied : (t : Bound) → bound (english_function n) before scope (spelled before t) ≡ t
        → sheets_in (bound (english_function n) later (Some id) (spelled_with (copy_spelling later source.id id) key_text t)) ≡ map (copied_sheet (copying_of b index source)) (sheets_in t)
    sheets_copied t settled =
        subst (λ (u : Bound). sheets_in (bound (english_function n) later (Some id) (spelled_with (copy_spelling later source.id id) key_text u)) ≡ map (copied_sheet (copying_of b index source)) (sheets_in u)) settled
        (sheets_become (english_function n) scope (Some id) before later (copy_spelling later source.id id) key_text (copied_sheet (copying_of b index source)) sheet_becomes (spelled before t))

    locals_copied : (t : Bound) → bound (english_function n) before scope (spelled before t) ≡ t
        → locals_in (bound (english_function n) later (Some id) (spelled_with (copy_spelling later source.id id) key_text t)) ≡ map (copied_local (copying_of b index source)) (locals_in t)
    locals_copied t settled =
        subst (λ (u : Bound). locals_in (bound (english_function n) later (Some id) (spelled_with (copy_spelling later source.id id) key_text u)) ≡ map (copied_local (copying_of b index source)) (locals_in u)) settled
        (locals_become (english_function n) scope (Some id) before later (copy_spelling later source.id id) key_text (copied_local (copying_of b index source)) local_becomes (spelled before t))

    pooled_becomes : (f : Formula) → IsPooled n before scope f → HasCopiedMentions (copying_of b index source) f (formula_copied b index source f)
    pooled_becomes (formulas.Tree t) h = (tree_becomes t h.settled, sheets_copied t h.settled, locals_copied t h.settled)
    pooled_becomes (formulas.Raw text) h = refl

    kept_becomes : (f : Formula) → IsKeptFormula n before scope (pos 1) (pos 1) f → HasCopiedMentions (copying_of b index source) f (formula_copied b index source f)
    kept_becomes (formulas.Tree t) h = (tree_becomes t h.settled, sheets_copied t h.settled, locals_copied t h.settled)
    kept_becomes (formulas.Raw text) h = refl

  pool_words : AllZip (HasCopiedMentions (copying_of b index source)) source.pool (copy_of_sheet b index source).pool
  pool_words =
      zip_mapped (IsPooled n before (Some source.id)) (HasCopiedMentions (copying_of b index source)) (formula_copied b index source) (pooled_becomes (Some source.id) (inr refl)) source.pool (all_at (IsKeptPool n before) index b.sheets source valid.kept.pools at)

  -- a copied definition is local to the sheet, or to none
  abbrev IsCopied : Definition → Type 0
  IsCopied d = IsSource d.scope × IsKeptBody n before d

  all_copied : AllByRecursion IsCopied copied
  all_copied =
      all_appended IsCopied (local_to source.id b.definitions) (shared_about source.id b.definitions)
      (all_filtered (λ d. same_scope d.scope (Some source.id)) (IsKeptBody n before) IsCopied (λ d e h. (inr (same_scope_from d.scope (Some source.id) e), h)) b.definitions valid.kept.bodies)
      (all_filtered _ (IsKeptBody n before) IsCopied (λ d e h. (inl (none_is d.scope (and_parts (is_none d.scope) _ (and_parts (is_none d.scope && mentions_sheet source.id d.body) _ e).0).0), h)) b.definitions valid.kept.bodies)
    where
      none_is : (o : Option ℕ) → is_none o ≡ true → o ≡ None
      none_is None e = refl
      none_is (Some i) e = cc

  body_words : AllZip (λ (d e : Definition). HasCopiedMentions (copying_of b index source) d.body e.body) copied (copies_of_definitions b index source)
  body_words =
      subst (AllZip (λ (d e : Definition). HasCopiedMentions (copying_of b index source) d.body e.body) copied) (map_twice (local_in id) (with_formula (formula_copied b index source)) copied)
      (zip_mapped IsCopied (λ (d e : Definition). HasCopiedMentions (copying_of b index source) d.body e.body) (λ d. with_formula (formula_copied b index source) (local_in id d)) (λ d h. kept_becomes d.scope h.0 d.body h.1) copied all_copied)

pub copied_means_same : CopiedMeansSame
unfolding duplicate_sheet_step
copied_means_same b after index source fields valid at e =
    let one : duplicated b index source ≡ Ok (after, fields) = sym (ap (λ (o : Option Sheet). found_or InvalidSheet (option_map (duplicated b index) o)) at) ∙ e in
    let ok = accepted (first_refusal ((is_none (fresh_id (core_of b)), IdsUsedUp) ∷ [])) (changed_by (with_copy index (copy_of_sheet b index source) (copies_of_definitions b index source)) b) after (named_fields (name_of_copy b source.name) (index + 1)) fields one in
    let room = (none_holds ((is_none (fresh_id (core_of b)), IdsUsedUp) ∷ []) ok.0).0 in
    let within : index < length b.sheets = slice_get_within b.sheets index source at in
    let kept : List Sheet = (with_kept_formulas (notations_in b) (scene_in b) (scene_in (with_copy index (copy_of_sheet b index source) (copies_of_definitions b index source) b)) same_keys b).sheets in
    let long : length kept ≡ length b.sheets = length-map b.sheets _ in (
      ap (λ (left : Book). slice_get left.sheets (index + 1)) ok.1 ∙ got_inserted kept (index + 1) (copy_of_sheet b index source) (omega (arith, within, long)),
      pool_words b valid index source at room,
      body_words b valid index source at room,
    )
