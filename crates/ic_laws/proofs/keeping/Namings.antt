-- A new sheet and a renamed one: what they do to the scene, and to each formula of the book.
use Rattle.std.proofs.Common.{◌≡◌, ℕ, ◌+◌, List, [], false, Option, Some, refl, ◌∙◌}
use Rattle.std.specs.Prelude.{slice_get}
use Rattle.std.specs.List.{IsDistinct}
use Rattle.ic_laws.proofs.keeping.Books.{each_weaker, kept_as, trees_settled}
use Rattle.ic_laws.proofs.keeping.Kept.{Become, kept_becomes}
use Rattle.ic_laws.proofs.keeping.SheetChanges.{Naming, named_becomes}
use Rattle.ic_laws.proofs.keeping.Sheets.{push_differs, push_finds, push_has, rename_differs, rename_finds, rename_has, sheets_differ}
use Rattle.ic_laws.proofs.kept.Kept.{english_by_fold}
use Rattle.ic_laws.specs.Binding.{IsSettled}
use Rattle.ic_laws.specs.BookTrees.{with_trees}
use Rattle.ic_laws.specs.Changes.{Change, changed_local, changed_sheet, changed_tree, changed_word, sheet_named}
use Rattle.ic_laws.specs.CoreBook.{CoreBook, Sheet, greatest_id, has_sheet, names_of, scene_of}
use Rattle.ic_laws.specs.CoreStep.{has_other_sheet, with_new_sheet, with_sheet_name}
use Rattle.ic_laws.specs.Keeping.{kept, same_keys, with_kept}
use Rattle.ic_laws.specs.Name.{agrees}
use Rattle.ic_laws.specs.Notations.{AreNotations, Notations, english_function}
use Rattle.ic_laws.specs.ValidCore.{IsValidCore}
use Rattle.ic_laws.specs.declared.scene.Scene.{Scene}

-- A valid book is kept as the book with each of its trees changed, where that is what mentions become.
pub kept_changed : (n : Notations) (book : CoreBook) (after : Scene) (change : Change) → AreNotations n → IsValidCore n book → ((scope : Option ℕ) → Become (scene_of book) after scope (changed_sheet change) (changed_word change scope) (changed_local change))
    → with_kept n (scene_of book) after same_keys book ≡ with_trees (changed_tree change) book
kept_changed n book after change are valid become =
    kept_as n (scene_of book) after same_keys (changed_tree change) book
    (each_weaker (IsSettled (english_function n) (scene_of book)) (λ scope t. kept (english_function n) (scene_of book) after same_keys scope t ≡ changed_tree change scope t)
    (λ scope t settled. kept_becomes (english_function n) (scene_of book) after scope (changed_sheet change) (changed_word change scope) (changed_local change) (become scope) (english_by_fold n are) t settled) book (trees_settled n book valid))

-- a new sheet of a name that agrees with none
pub add_naming : (book : CoreBook) (name : List ℕ) → IsDistinct agrees (names_of book) → has_sheet book name ≡ false → Naming (scene_of book) (scene_of (with_new_sheet name book)) (greatest_id book + 1) name
add_naming book name differ new =
    let s : Sheet = record { id = greatest_id book + 1; name = name; cells = [] } in
    record {
      words = refl;
      differ = sheets_differ (with_new_sheet name book) (push_differs book.sheets s differ new);
      there = push_has book.sheets s;
      found = push_finds book.sheets s;
    }

-- a sheet renamed to a name that agrees with no other's
pub rename_naming : (book : CoreBook) (index : ℕ) (name : List ℕ) (sheet : Sheet) → IsDistinct agrees (names_of book) → slice_get book.sheets index ≡ Some sheet → has_other_sheet book index name ≡ false
    → Naming (scene_of book) (scene_of (with_sheet_name index name book)) sheet.id name
rename_naming book index name sheet differ at new = record {
  words = refl;
  differ = sheets_differ (with_sheet_name index name book) (rename_differs name book.sheets index differ new);
  there = λ i h. rename_has name book.sheets index i ∙ h;
  found = λ typed. rename_finds name book.sheets index sheet typed at;
}

-- so the formulas of a valid book are kept over it
pub kept_naming : (n : Notations) (book : CoreBook) (after : Scene) (id : ℕ) (name : List ℕ) → AreNotations n → IsValidCore n book → Naming (scene_of book) after id name
    → with_kept n (scene_of book) after same_keys book ≡ with_trees (changed_tree (sheet_named (scene_of book) id name)) book
kept_naming n book after id name are valid naming = kept_changed n book after (sheet_named (scene_of book) id name) are valid (named_becomes (scene_of book) after id name naming)
