-- What a model holds after a sheet was put in among the others.
use Rattle.std.proofs.Common.{◌≡◌, ℕ, ◌<◌, ◌≤◌, ◌^◌, List, [], true, false, map, length, Some, None, arith, sym, ap, ap₂, subst, ◌∙◌}
use Rattle.std.proofs.lemmas.Bool.{ltb-false, or_parts}
use Rattle.std.proofs.lemmas.Bool.Decides.{nat_tests}
use Rattle.std.proofs.lemmas.List.{length-map}
use Rattle.std.specs.List.{insert, list_any}
use Rattle.std.specs.Prelude.{nat_eq}
use Rattle.ic_laws.proofs.keeping.Namings.{kept_naming}
use Rattle.ic_laws.specs.BookTrees.{with_body_tree}
use Rattle.ic_laws.specs.Changes.{changed_tree, sheet_named}
use Rattle.ic_laws.specs.CoreBook.{CoreBook, Definition, has_sheet, ids_of, scene_of}
use Rattle.ic_laws.specs.Name.{agrees}
use Rattle.ic_laws.specs.Notations.{Notations}
use Rattle.ic_definitions.specs.Named.{definitions_scene}
use Rattle.ic_machine.proofs.bound.InsertedBinds.{insert_naming}
use Rattle.ic_machine.proofs.valid.InsertedStays.{none_holds}
use Rattle.ic_machine.specs.Binds.{with_sheet_among}
use Rattle.ic_machine.specs.Book as machine
use Rattle.ic_machine.specs.Kept.{is_given_id}
use Rattle.ic_machine.specs.Refusal.{first_refusal}
use Rattle.ic_machine.specs.subjects.Sheets.{insert_causes}
use Rattle.ic_sheets.specs.Rewriting.{changed_pool, sheets_of}
use Rattle.ic_sheets.specs.Sheet.{Sheet, empty_grid, plain_tab, sheet_of}
use Rattle.ic_sheets.specs.declared.sheet.Sheet.{Sheet as HeldSheet}
use Rattle.ic_book.specs.declared.model.Model.TheInside.{Inside}
use Rattle.ic_parts.specs.Book.{Book, core_of, notations_in, whole_of, whole_sheet}
use Rattle.ic_parts.specs.Change.{book_changed_by, with_inserted_sheet}
use Rattle.ic_book.specs.Inside.{IsHeld, held, with_contents}
use Rattle.ic_parts.specs.Mentioned.{BindsInserted}
use Rattle.ic_parts.proofs.BookLemmas.{core_of-changed, inserted_change}
use Rattle.ic_parts.proofs.BookValid.{core_valid, inserted_valid, notations, pools_valid}
use Rattle.ic_parts.proofs.ChangeLemmas.{inserted_is}
use Rattle.ic_book.proofs.HeldLemmas.{after, held_after}
use Rattle.ic_parts.proofs.HeldLemmas.{seen_ids, seen_names}
use Rattle.ic_parts.proofs.WholeLemmas.{whole_core}

-- an id of 32 bits is one that a word can say
pub says_id : (id : ℕ) → id < 2 ^ 32 → is_given_id (Some id) ≡ true
says_id id lt = grind (arith, nat_tests)

module _ (inside : Inside) (h : IsHeld inside) (index id : ℕ) (name : List ℕ) (none : first_refusal (insert_causes (whole_of (held inside)) name index (Some id)) ≡ None) where
  abbrev book : Book
  book = held inside

  abbrev ws : List HeldSheet
  ws = inside.contents.sheets

  abbrev ds : List Definition
  ds = inside.contents.definitions

  abbrev n : Notations
  n = notations_in book

  -- there is that place, the name agrees with none, and the id is no sheet's
  pub put_within : index ≤ length ws
  put_within =
      let clear = none_holds (insert_causes (whole_of book) name index (Some id)) none in
      subst (λ k. index ≤ k) (length-map (map sheet_of ws) (whole_sheet book.strings) ∙ length-map ws sheet_of) (ltb-false (length (whole_of book).sheets) index clear.1.1.0)

  free_name : has_sheet (core_of book) name ≡ false
  free_name = subst (λ c. has_sheet c name ≡ false) (whole_core book) (none_holds (insert_causes (whole_of book) name index (Some id)) none).1.0

  pub put_free : list_any (agrees name) (map (λ (s : HeldSheet). s.name) ws) ≡ false
  put_free = ap (list_any (agrees name)) (seen_names ws) ∙ free_name

  pub put_fresh : list_any (nat_eq id) (map (λ (s : HeldSheet). s.id) ws) ≡ false
  put_fresh =
      let clear = none_holds (insert_causes (whole_of book) name index (Some id)) none in
      ap (list_any (nat_eq id)) (seen_ids ws) ∙ ap (λ (c : CoreBook). list_any (nat_eq id) (ids_of c)) (sym (whole_core book))
      ∙ (or_parts (nat_eq id 0) (list_any (nat_eq id) (ids_of (machine.core_of (whole_of book)))) clear.1.1.1.0).1

  -- what it does to the sheets and the definitions
  module _ (now : List HeldSheet) (nds : List Definition) where
    pub inserted : sheets_of now ≡ insert (map (changed_pool (sheet_named (definitions_scene ds) id name)) (sheets_of ws)) index (record { id = id; name = name; pool = []; grid = empty_grid; tab = plain_tab })
        → nds ≡ map (with_body_tree (changed_tree (sheet_named (definitions_scene ds) id name))) ds → after inside h now nds ≡ book_changed_by (with_inserted_sheet index id name) book
    inserted e f =
        ap₂ (λ (sheets : List Sheet) (definitions : List Definition). let b : Book = record book { sheets = sheets; definitions = definitions } in b) e f
        ∙ sym (inserted_is n (notations book h) book (core_valid book h) (pools_valid book h) index id name free_name)

    pub inserted_held : is_given_id (Some id) ≡ true → after inside h now nds ≡ book_changed_by (with_inserted_sheet index id name) book → IsHeld (with_contents now nds inside)
    inserted_held small is = held_after inside h now nds (book_changed_by (with_inserted_sheet index id name) book) is (inserted_valid book h index id name small none)

  -- what is bound then
  pub binds_inserted : (new : Book) → new ≡ book_changed_by (with_inserted_sheet index id name) book → BindsInserted index id name book new
  binds_inserted new is =
      ap core_of is ∙ core_of-changed n (with_inserted_sheet index id name) (with_sheet_among index id name) (inserted_change index id name) book
      ∙ ap (with_sheet_among index id name)
      (kept_naming n (core_of book) (scene_of (with_sheet_among index id name (core_of book))) id name (notations book h) (core_valid book h) (insert_naming (core_of book) index id name (core_valid book h).names_differ free_name))
