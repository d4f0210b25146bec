-- The commands on sheets that look at no notation, and the one that takes a definition away, leave the same of books that
-- are the same.
use Rattle.std.proofs.Common.{◌≡◌, ℕ, suc, ◌+◌, List, [], ◌∷◌, ◌++◌, map, length, not, Option, Some, None, refl, sym, ap, ap₂, subst, ◌∙◌}
use Rattle.std.proofs.lemmas.List.Elements.{length_all_zip}
use Rattle.std.specs.List.{AllZip, find, range_with_len, remove}
use Rattle.std.specs.Prelude.{is_none, nat_lt, unwrap_or}
use Rattle.ic_laws.specs.CoreBook.{CoreBook, Definition, fresh_id, greatest_id, has_sheet}
use Rattle.ic_laws.specs.CoreStep as core
use Rattle.ic_laws.specs.CoreStep.{at_found, core_step, index_of_definition, index_of_id, index_of_name, scope_or_none}
use Rattle.ic_laws.specs.Keeping.{same_keys}
use Rattle.ic_laws.specs.Name.{is_sheet_name}
use Rattle.ic_laws.specs.Notations.{Notations}
use Rattle.ic_laws.specs.Refusal as refusals
use Rattle.ic_laws.specs.declared.scene.Scene.{Scene}
use Rattle.ic_laws.specs.declared.tree.Formula.{Formula}
use Rattle.ic_tree.specs.Notations.{notations_of}
use Rattle.ic_machine.specs.Book.{Book, Sheet, as_core, core_of, empty_sheet, notations_in}
use Rattle.ic_machine.specs.Changed.{changed_by, with_moved_sheet, with_removed_sheet, with_renamed_sheet, without_definition}
use Rattle.ic_machine.specs.Refusal.{Causes, IdLive, IdsUsedUp, InvalidSheetName, OutOfRange, SheetExists}
use Rattle.ic_machine.specs.Same.{IsSameBook, IsSameSheet}
use Rattle.ic_machine.specs.subjects.Definitions.{delete_definition_step}
use Rattle.ic_machine.specs.subjects.Sheets.{add_sheet_step, chosen_id, copied_formula, copied_of, copies_of_definitions, copy_id, copy_name, copy_named, copy_of_sheet, definitions_moved, delete_by_id_step, delete_by_name_step, delete_sheet_step, duplicate_sheet_step, duplicated, formula_copied, insert_causes, insert_sheet_step, is_live, local_in, move_sheet_step, name_of_copy, rename_by_index_step, rename_sheet_step, scene_with_copy, with_copy, with_formula, with_inserted_sheet, with_new_sheet}
use Rattle.ic_machine.proofs.same.ChangedSame.{changed_same}
use Rattle.ic_machine.proofs.same.NewSheetSame.{added_same}
use Rattle.ic_machine.proofs.same.SameLemmas.{core_same, scene_same, sheet_itself}
use Rattle.ic_machine.proofs.same.SameSteps.{SameSteps, at_sheet_same, core_steps_same, refused_same}
use Rattle.ic_machine.proofs.same.ZippedLemmas.{zipped_inserted, zipped_moved, zipped_removed, zipped_updated}

-- a book with other sheets and other definitions
parts_same : (b c : Book) → IsSameBook b c → (xs ys : List Sheet) (ds es : List Definition) → AllZip IsSameSheet xs ys → ds ≡ es
    → IsSameBook (record b { sheets = xs; definitions = ds }) (record c { sheets = ys; definitions = es })
parts_same b c same xs ys ds es h e = record { sheets = h; definitions = e; zone = same.zone; theme = same.theme; name = same.name; metadata = same.metadata; tables = same.tables }

-- an index that was looked up
found_steps_same : (o p : Option ℕ) (refuses also : ℕ → Option refusals.Refusal) (now then : ℕ → CoreBook) (one other : Book) → o ≡ p → ((i : ℕ) → refuses i ≡ also i) → IsSameBook one other
    → SameSteps IsSameBook (as_core (at_found o (λ i. core.unless_refused (refuses i) (now i) [])) one) (as_core (at_found p (λ i. core.unless_refused (also i) (then i) [])) other)
found_steps_same None None refuses also now then one other e h same = tt
found_steps_same None (Some j) refuses also now then one other e h same = absurd (cc)
found_steps_same (Some i) None refuses also now then one other e h same = absurd (cc)
found_steps_same (Some i) (Some j) refuses also now then one other e h same =
    let is : i ≡ j = cc in
    core_steps_same (refuses i) (also j) (now i) (then j) [] [] one other (h i ∙ ap also is) same

module _ (b c : Book) (same : IsSameBook b c) where
  -- what looks at the core, but not at the notation, finds the same
  core_is : core_of c ≡ record (core_of b) { locale = c.locale; language = c.language }
  core_is = core_same b c same

  many : length b.sheets ≡ length c.sheets
  many = length_all_zip IsSameSheet b.sheets c.sheets same.sheets

  -- the changes ----

  renamed : (name : List ℕ) (i j : ℕ) → i ≡ j → IsSameBook (changed_by (with_renamed_sheet i name) b) (changed_by (with_renamed_sheet j name) c)
  renamed name i j e =
      subst (λ (k : ℕ). IsSameBook (changed_by (with_renamed_sheet i name) b) (changed_by (with_renamed_sheet k name) c)) e
      (changed_same same_keys (with_renamed_sheet i name) (with_renamed_sheet i name)
      (λ x y h. parts_same x y h _ _ _ _
      (zipped_updated IsSameSheet (λ s. record s { name = name }) (λ s. record s { name = name })
      (λ s t k. record { id = k.id; name = refl; pool = k.pool; grid = k.grid; tab = k.tab }) i x.sheets y.sheets h.sheets) h.definitions) b c same)

  removed : (i j : ℕ) → i ≡ j → IsSameBook (changed_by (with_removed_sheet i) b) (changed_by (with_removed_sheet j) c)
  removed i j e =
      subst (λ (k : ℕ). IsSameBook (changed_by (with_removed_sheet i) b) (changed_by (with_removed_sheet k) c)) e
      (changed_same same_keys (with_removed_sheet i) (with_removed_sheet i)
      (λ x y h. parts_same x y h _ _ _ _ (zipped_removed IsSameSheet x.sheets y.sheets i h.sheets) h.definitions) b c same)

  without_same : (o : Option ℕ) (x y : Book) → IsSameBook x y → IsSameBook (without_definition o x) (without_definition o y)
  without_same None x y h = h
  without_same (Some i) x y h = parts_same x y h _ _ _ _ h.sheets (ap (λ (ds : List Definition). remove ds i) h.definitions)

  -- the steps ----

  pub add_same : (name : List ℕ) → SameSteps IsSameBook (add_sheet_step name b) (add_sheet_step name c)
  unfolding add_sheet_step core_step
  add_same name =
      core_steps_same (core.add_sheet_refusal (core_of b) name) (core.add_sheet_refusal (core_of c) name) _ _ [] [] _ _ (sym (ap (λ (k : CoreBook). core.add_sheet_refusal k name) core_is))
      (changed_same same_keys (with_new_sheet name) (with_new_sheet name) (added_same name) b c same)

  pub rename_same : (old new : List ℕ) → SameSteps IsSameBook (rename_sheet_step old new b) (rename_sheet_step old new c)
  unfolding rename_sheet_step core_step
  rename_same old new =
      let at : index_of_name (core_of b) old ≡ index_of_name (core_of c) old = sym (ap (λ (k : CoreBook). index_of_name k old) core_is) in
      found_steps_same (index_of_name (core_of b) old) (index_of_name (core_of c) old) (λ i. core.rename_refusal (core_of b) i new) (λ i. core.rename_refusal (core_of c) i new) _ _ _ _ at
      (λ i. sym (ap (λ (k : CoreBook). core.rename_refusal k i new) core_is))
      (renamed new (unwrap_or (index_of_name (core_of b) old) 0) (unwrap_or (index_of_name (core_of c) old) 0) (ap (λ (o : Option ℕ). unwrap_or o 0) at))

  pub rename_by_index_same : (index : ℕ) (name : List ℕ) → SameSteps IsSameBook (rename_by_index_step index name b) (rename_by_index_step index name c)
  unfolding rename_by_index_step core_step
  rename_by_index_same index name =
      core_steps_same (core.rename_refusal (core_of b) index name) (core.rename_refusal (core_of c) index name) _ _ [] [] _ _ (sym (ap (λ (k : CoreBook). core.rename_refusal k index name) core_is))
      (renamed name index index refl)

  pub move_same : (from to : ℕ) → SameSteps IsSameBook (move_sheet_step from to b) (move_sheet_step from to c)
  unfolding move_sheet_step core_step
  move_same from to =
      core_steps_same (core.move_refusal (core_of b) from to) (core.move_refusal (core_of c) from to) _ _ [] [] (with_moved_sheet from to b) (with_moved_sheet from to c)
      (sym (ap (λ (k : CoreBook). core.move_refusal k from to) core_is))
      (parts_same b c same _ _ _ _ (zipped_moved IsSameSheet from to b.sheets c.sheets same.sheets) same.definitions)

  pub delete_same : (index : ℕ) → SameSteps IsSameBook (delete_sheet_step index b) (delete_sheet_step index c)
  unfolding delete_sheet_step core_step
  delete_same index =
      core_steps_same (core.delete_refusal (core_of b) index) (core.delete_refusal (core_of c) index) _ _ [] [] _ _ (sym (ap (λ (k : CoreBook). core.delete_refusal k index) core_is)) (removed index index refl)

  pub delete_by_name_same : (name : List ℕ) → SameSteps IsSameBook (delete_by_name_step name b) (delete_by_name_step name c)
  unfolding delete_by_name_step core_step
  delete_by_name_same name =
      let at : index_of_name (core_of b) name ≡ index_of_name (core_of c) name = sym (ap (λ (k : CoreBook). index_of_name k name) core_is) in
      found_steps_same (index_of_name (core_of b) name) (index_of_name (core_of c) name) (λ i. core.delete_refusal (core_of b) i) (λ i. core.delete_refusal (core_of c) i) _ _ _ _ at
      (λ i. sym (ap (λ (k : CoreBook). core.delete_refusal k i) core_is))
      (removed (unwrap_or (index_of_name (core_of b) name) 0) (unwrap_or (index_of_name (core_of c) name) 0) (ap (λ (o : Option ℕ). unwrap_or o 0) at))

  pub delete_by_id_same : (id : ℕ) → SameSteps IsSameBook (delete_by_id_step id b) (delete_by_id_step id c)
  unfolding delete_by_id_step core_step
  delete_by_id_same id =
      let at : index_of_id (core_of b) id ≡ index_of_id (core_of c) id = sym (ap (λ (k : CoreBook). index_of_id k id) core_is) in
      found_steps_same (index_of_id (core_of b) id) (index_of_id (core_of c) id) (λ i. core.delete_refusal (core_of b) i) (λ i. core.delete_refusal (core_of c) i) _ _ _ _ at
      (λ i. sym (ap (λ (k : CoreBook). core.delete_refusal k i) core_is))
      (removed (unwrap_or (index_of_id (core_of b) id) 0) (unwrap_or (index_of_id (core_of c) id) 0) (ap (λ (o : Option ℕ). unwrap_or o 0) at))

  pub delete_definition_same : (name : List ℕ) (index : Option ℕ) → SameSteps IsSameBook (delete_definition_step name index b) (delete_definition_step name index c)
  unfolding delete_definition_step core_step
  delete_definition_same name index =
      let at : index_of_definition (core_of b) name (scope_or_none (core_of b) index) ≡ index_of_definition (core_of c) name (scope_or_none (core_of c) index) =
      sym (ap (λ (k : CoreBook). index_of_definition k name (scope_or_none k index)) core_is) in
      core_steps_same (core.delete_definition_refusal (core_of b) name index) (core.delete_definition_refusal (core_of c) name index) _ _ [] [] _ _
      (sym (ap (λ (k : CoreBook). core.delete_definition_refusal k name index) core_is))
      (subst (λ (o : Option ℕ). IsSameBook (changed_by (without_definition (index_of_definition (core_of b) name (scope_or_none (core_of b) index))) b) (changed_by (without_definition o) c)) at
      (changed_same same_keys (without_definition (index_of_definition (core_of b) name (scope_or_none (core_of b) index)))
      (without_definition (index_of_definition (core_of b) name (scope_or_none (core_of b) index))) (without_same (index_of_definition (core_of b) name (scope_or_none (core_of b) index))) b c same))

  -- a sheet that is inserted
  pub insert_same : (name : List ℕ) (index : ℕ) (id : Option ℕ) → SameSteps IsSameBook (insert_sheet_step name index id b) (insert_sheet_step name index id c)
  unfolding insert_sheet_step
  insert_same name index id =
      refused_same IsSameBook (insert_causes b name index id) (insert_causes c name index id) _ _ [] []
      (sym
      (ap₂
      (λ (k : CoreBook) (n : ℕ).
      let causes : Causes = (not (is_sheet_name name), InvalidSheetName) ∷ (has_sheet k name, SheetExists) ∷ (nat_lt n index, OutOfRange) ∷ (is_live k id, IdLive) ∷ (is_none (chosen_id k id), IdsUsedUp) ∷ [] in causes)
      core_is (sym many)))
      (subst (λ (i : ℕ). IsSameBook (changed_by (with_inserted_sheet index (unwrap_or (chosen_id (core_of b) id) 0) name) b) (changed_by (with_inserted_sheet index i name) c))
      (sym (ap (λ (k : CoreBook). unwrap_or (chosen_id k id) 0) core_is))
      (let inserted : ℕ = unwrap_or (chosen_id (core_of b) id) 0 in
      changed_same same_keys (with_inserted_sheet index inserted name) (with_inserted_sheet index inserted name)
      (λ x y h. parts_same x y h _ _ _ _ (zipped_inserted IsSameSheet x.sheets y.sheets index (empty_sheet inserted name) (empty_sheet inserted name) h.sheets (sheet_itself (empty_sheet inserted name))) h.definitions)
      b c same))

  -- a copy ----

  name_same : (source : List ℕ) → name_of_copy b source ≡ name_of_copy c source
  name_same source =
      sym
      (ap₂
      (λ (k : CoreBook) (n : ℕ). copy_name source (unwrap_or (find (λ m. not (has_sheet k (copy_name source m))) (range_with_len 1 (suc n))) (suc n)))
      core_is (sym many))

  module _ (index : ℕ) (s t : Sheet) (sheets : IsSameSheet s t) where
    id_same : copy_id b index s ≡ copy_id c index t
    id_same = sym (ap (λ (k : CoreBook). greatest_id k + 1) core_is)

    named_same : IsSameSheet (copy_named b index s) (copy_named c index t)
    named_same = record { id = id_same; name = name_same s.name ∙ ap (name_of_copy c) sheets.name; pool = sheets.pool; grid = sheets.grid; tab = sheets.tab }

    moved_same : definitions_moved b index s ≡ definitions_moved c index t
    moved_same =
        ap₂ (λ (id : ℕ) (ds : List Definition). map (local_in id) ds) id_same
        (ap₂ (λ (id : ℕ) (ds : List Definition). copied_of id ds) sheets.id same.definitions)

    with_copy_same : (x y : Sheet) → IsSameSheet x y → (ds es : List Definition) → ds ≡ es → (d e : Book) → IsSameBook d e → IsSameBook (with_copy index x ds d) (with_copy index y es e)
    with_copy_same x y h ds es e one other k =
        parts_same one other k _ _ _ _ (zipped_inserted IsSameSheet one.sheets other.sheets (index + 1) x y k.sheets h) (ap₂ (λ (all more : List Definition). all ++ more) k.definitions e)

    scene_copied : scene_with_copy b index s ≡ scene_with_copy c index t
    scene_copied = sym (scene_same _ _ (with_copy_same (copy_named b index s) (copy_named c index t) named_same (definitions_moved b index s) (definitions_moved c index t) moved_same b c same))

    copied_same : formula_copied b index s ≡ formula_copied c index t
    copied_same =
        ap₂ (λ (n : Notations) (scene : Scene). copied_formula n scene s.id (copy_id b index s)) (ap notations_of same.tables) scene_copied
        ∙ ap₂ (λ (id copy : ℕ). copied_formula (notations_in c) (scene_with_copy c index t) id copy) sheets.id id_same

    copy_same : IsSameSheet (copy_of_sheet b index s) (copy_of_sheet c index t)
    copy_same = record {
      id = named_same.id;
      name = named_same.name;
      pool = ap₂ (λ (f : Formula → Formula) (pool : List Formula). map f pool) copied_same sheets.pool;
      grid = sheets.grid;
      tab = sheets.tab;
    }

    copies_same : copies_of_definitions b index s ≡ copies_of_definitions c index t
    copies_same = ap₂ (λ (f : Formula → Formula) (ds : List Definition). map (with_formula f) ds) copied_same moved_same

    duplicated_same : SameSteps IsSameBook (duplicated b index s) (duplicated c index t)
    duplicated_same =
        refused_same IsSameBook ((is_none (fresh_id (core_of b)), IdsUsedUp) ∷ []) ((is_none (fresh_id (core_of c)), IdsUsedUp) ∷ []) _ _ _ _
        (sym (ap (λ (k : CoreBook). let causes : Causes = (is_none (fresh_id k), IdsUsedUp) ∷ [] in causes) core_is))
        (changed_same same_keys (with_copy index (copy_of_sheet b index s) (copies_of_definitions b index s)) (with_copy index (copy_of_sheet c index t) (copies_of_definitions c index t))
        (with_copy_same (copy_of_sheet b index s) (copy_of_sheet c index t) copy_same (copies_of_definitions b index s) (copies_of_definitions c index t) copies_same) b c same)

  pub duplicate_same : (index : ℕ) → SameSteps IsSameBook (duplicate_sheet_step index b) (duplicate_sheet_step index c)
  unfolding duplicate_sheet_step
  duplicate_same index = at_sheet_same b c same index (duplicated b index) (duplicated c index) (λ s t e f h. duplicated_same index s t h)
