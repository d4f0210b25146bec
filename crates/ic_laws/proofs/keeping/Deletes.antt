-- A deleted sheet, a new definition and a deleted one: what they do to each formula of a valid book.
use Rattle.std.proofs.Common.{◌≡◌, ℕ, List, [], ◌∷◌, map, Option, Some, Ok, refl, sym, ap, subst, ◌∙◌, nat_eq}
use Rattle.std.specs.Prelude.{option_map, remove, slice_get, unwrap_or}
use Rattle.std.specs.Cmp.{nat_eq_equiv}
use Rattle.std.specs.Fmt.{decimal}
use Rattle.std.specs.List.{IsDistinct, find}
use Rattle.std.proofs.lemmas.Bool.{eq-eqb}
use Rattle.std.proofs.lemmas.List.{map-append}
use Rattle.std.proofs.lemmas.Option.{slice_get-map}
use Rattle.std.proofs.lemmas.Simd.{map-map}
use Rattle.ic_laws.proofs.CoreLemmas.{agrees_equiv}
use Rattle.ic_laws.proofs.keeping.Accepted.{accepted}
use Rattle.ic_laws.proofs.keeping.NameChanges.{added_becomes, gone_name_becomes}
use Rattle.ic_laws.proofs.keeping.Namings.{kept_changed}
use Rattle.ic_laws.proofs.keeping.Removing.{finds_itself, finds_no_other, remove_map, removed_any, removed_differs, removed_finds_none}
use Rattle.ic_laws.proofs.keeping.SheetChanges.{Going, gone_becomes, has_id}
use Rattle.ic_laws.proofs.keeping.Sheets.{nothing_found, seen, sheets_differ}
use Rattle.ic_laws.specs.BookTrees.{with_trees}
use Rattle.ic_laws.specs.Changes.{changed_tree, definition_added, definition_gone, sheet_gone}
use Rattle.ic_laws.specs.Command.{Field}
use Rattle.ic_laws.specs.CoreBook.{CoreBook, Definition, Sheet, scene_of, spelling_of}
use Rattle.ic_laws.specs.CoreStep.{changed_by, delete_definition_refusal, delete_definition_step, delete_refusal, delete_step, index_of_definition, new_definition, new_definition_refusal, new_definition_step, scope_or_none, with_definition, with_new_definition, without_definition, without_sheet}
use Rattle.ic_laws.specs.FormulaReading.{Body, body_of}
use Rattle.ic_laws.specs.Name.{agrees}
use Rattle.ic_laws.specs.Notations.{AreNotations, Notations}
use Rattle.ic_laws.specs.Scene.{IdsDiffer, KeysDiffer, SheetsDiffer, key_of, same_key, sheet_spelling}
use Rattle.ic_laws.specs.ValidCore.{IsValidCore}
use Rattle.ic_laws.specs.declared.scene.NameSpelling.{NameSpelling}
use Rattle.ic_laws.specs.declared.scene.Scene.{Scene}
use Rattle.ic_laws.specs.declared.scene.SheetName.{SheetName}

-- a scene without one of its sheets
removal_goes : (before after : Scene) (index : ℕ) (s : SheetName) → after.names ≡ before.names → after.sheets ≡ remove before.sheets index → slice_get before.sheets index ≡ Some s → SheetsDiffer before → IdsDiffer before
    → Going before after s.id s.name
removal_goes before after index s words fewer at differ ids = record {
  words = words;
  differ = subst (λ (ss : List SheetName). IsDistinct agrees (map (λ (x : SheetName). x.name) ss)) (sym fewer) (removed_differs (λ (x : SheetName). x.name) agrees agrees_equiv.symm before.sheets index differ);
  there = λ i h e. ap (has_id i) fewer ∙ (removed_any (λ (x : SheetName). nat_eq x.id i) before.sheets index s at (nat_eq_equiv.symm s.id i ∙ e) ∙ h);
  found = λ typed e. ap (option_map (λ (x : SheetName). x.id)) (ap (find (λ (x : SheetName). agrees x.name typed)) fewer ∙ removed_finds_none (λ (x : SheetName). agrees x.name typed) before.sheets index (nothing_found _ e));
  gone = ap (option_map (λ (x : SheetName). x.id)) (ap (find (λ (x : SheetName). agrees x.name s.name)) fewer ∙ finds_no_other (λ (x : SheetName). x.name) agrees agrees_equiv.symm before.sheets index s differ at);
  spelling =
      ap (λ o. unwrap_or (option_map (λ (x : SheetName). x.name) o) (sheet_spelling before s.id)) (ap (find (λ (x : SheetName). nat_eq x.id s.id)) fewer ∙ finds_no_other (λ (x : SheetName). x.id) nat_eq nat_eq_equiv.symm before.sheets index s ids at)
      ∙ ap (λ o. unwrap_or (option_map (λ (x : SheetName). x.name) o) (decimal s.id)) (finds_itself (λ (x : SheetName). x.id) nat_eq nat_eq_equiv.symm (λ i. eq-eqb i i refl) before.sheets index s ids at);
}

-- what the deletion of a sheet does to what formulas can mention
pub delete_going : (n : Notations) (book : CoreBook) (index : ℕ) (sheet : Sheet) → IsValidCore n book → slice_get book.sheets index ≡ Some sheet → Going (scene_of book) (scene_of (without_sheet index book)) sheet.id sheet.name
delete_going n book index sheet valid at =
    let ids : IdsDiffer (scene_of book) = subst (IsDistinct nat_eq) (sym (map-map (λ (x : SheetName). x.id) seen book.sheets)) valid.ids_differ in
    removal_goes (scene_of book) (scene_of (without_sheet index book)) index (seen sheet) refl (remove_map seen book.sheets index) (slice_get-map seen book.sheets index ∙ ap (option_map seen) at) (sheets_differ book valid.names_differ) ids

-- an accepted deletion of a sheet
pub delete_dangles : (n : Notations) (book after : CoreBook) (index : ℕ) (sheet : Sheet) (fields : List Field) → AreNotations n → IsValidCore n book → slice_get book.sheets index ≡ Some sheet → delete_step n book index ≡ Ok (after, fields)
    → after ≡ without_sheet index (with_trees (changed_tree (sheet_gone (scene_of book) sheet.id sheet.name)) book)
delete_dangles n book after index sheet fields are valid at e =
    let rest : Scene = scene_of (without_sheet index book) in
    (accepted (delete_refusal book index) (changed_by n (without_sheet index) book) after [] fields e).left
    ∙ ap (without_sheet index) (kept_changed n book rest (sheet_gone (scene_of book) sheet.id sheet.name) are valid (gone_becomes (scene_of book) rest sheet.id sheet.name (delete_going n book index sheet valid at)))

-- an accepted new definition
pub new_definition_binds : (n : Notations) (book after : CoreBook) (name : List ℕ) (index : Option ℕ) (text : List ℕ) (body : Body) (fields : List Field) → AreNotations n → IsValidCore n book → body_of n book text ≡ Some body
    → new_definition_step n book name index text ≡ Ok (after, fields)
    → after ≡ with_definition (new_definition n book name (scope_or_none book index) body) (with_trees (changed_tree (definition_added (record { name = name; scope = scope_or_none book index }))) book)
new_definition_binds n book after name index text body fields are valid typed e =
    let scope : Option ℕ = scope_or_none book index in
    let d : NameSpelling = record { name = name; scope = scope } in
    let new : Definition = new_definition n book name scope body in
    let before : Scene = scene_of book in
    let more : Scene = scene_of (with_definition new book) in
    (accepted (new_definition_refusal n book name index text) (with_new_definition n book name scope (body_of n book text)) after [] fields e).left
    ∙ (ap (with_new_definition n book name scope) typed
    ∙ ap (with_definition new) (kept_changed n book more (definition_added d) are valid
    (added_becomes before more d (record { sheets = refl; differ = sheets_differ book valid.names_differ; names = map-append spelling_of book.definitions (new ∷ []) }))))

-- an accepted deletion of a definition
pub delete_definition_dangles : (n : Notations) (book after : CoreBook) (name : List ℕ) (scope : Option ℕ) (index : ℕ) (definition : Definition) (fields : List Field) → AreNotations n → IsValidCore n book
    → index_of_definition book name (scope_or_none book scope) ≡ Some index → slice_get book.definitions index ≡ Some definition → delete_definition_step n book name scope ≡ Ok (after, fields)
    → after ≡ without_definition (Some index) (with_trees (changed_tree (definition_gone (scene_of (without_definition (Some index) book)) (spelling_of definition))) book)
delete_definition_dangles n book after name scope index definition fields are valid found at e =
    let before : Scene = scene_of book in
    let rest : Scene = scene_of (without_definition (Some index) book) in
    let keys : KeysDiffer before = subst (IsDistinct same_key) (sym (map-map key_of spelling_of book.definitions)) valid.keys_differ in
    (accepted (delete_definition_refusal book name scope) (changed_by n (without_definition (index_of_definition book name (scope_or_none book scope))) book) after [] fields e).left
    ∙ (ap (λ i. changed_by n (without_definition i) book) found
    ∙ ap (without_definition (Some index)) (kept_changed n book rest (definition_gone rest (spelling_of definition)) are valid
    (gone_name_becomes before rest index (spelling_of definition) (record {
      sheets = refl;
      differ = sheets_differ book valid.names_differ;
      keys = keys;
      at = slice_get-map spelling_of book.definitions index ∙ ap (option_map spelling_of) at;
      names = remove_map spelling_of book.definitions index;
    }))))
