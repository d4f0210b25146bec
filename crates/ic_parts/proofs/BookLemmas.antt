-- The whole book over a change of its sheets or its definitions: its core is changed as the machine's is.
use Rattle.std.proofs.Common.{◌≡◌, ℕ, ◌+◌, List, [], ◌∷◌, ◌++◌, map, flat_map, Some, refl, sym, ap, ap₂, ◌∙◌}
use Rattle.std.specs.Prelude.{insert}
use Rattle.std.specs.Option.{option_to_list}
use Rattle.std.proofs.lemmas.List.{map-append}
use Rattle.ic_laws.proofs.core.KeptBook.{in_body}
use Rattle.ic_laws.proofs.core.Lists.{removed_seen, updated_seen}
use Rattle.ic_laws.specs.CoreBook.{CellPlace, CoreBook, Definition, Sheet as CoreSheet, greatest_id, scene_of}
use Rattle.ic_laws.specs.CoreStep.{changed_by, with_definition, with_new_sheet, with_sheet_name, without_definition, without_sheet}
use Rattle.ic_laws.specs.Greatest.{greatest}
use Rattle.ic_laws.specs.Keeping.{kept_in_body, same_keys, with_kept}
use Rattle.ic_laws.specs.Notations.{Notations}
use Rattle.ic_laws.specs.declared.scene.Scene.{Scene}
use Rattle.ic_cells.specs.declared.cell.Cell.{Cell}
use Rattle.ic_machine.proofs.contents.AlikeGrid.{entries-empty}
use Rattle.ic_machine.specs.Binds.{with_sheet_among}
use Rattle.ic_sheets.specs.Sheet.{Sheet, cells_of, empty_grid, kept_pool, plain_tab, sheet_core}
use Rattle.ic_parts.specs.Book.{Book, core_of, scene_in}
use Rattle.ic_parts.specs.Change.{with_added_definition, with_added_sheet, with_inserted_sheet, with_kept_pools, with_removed_definition, with_removed_sheet, with_renamed_sheet}
use Rattle.ic_sheets.proofs.PoolLemmas.{sheet_cores-kept}
pub use Rattle.ic_machine.proofs.as_core.CoreLemmas.{moved-map}
use Rattle.ic_laws.proofs.General.{insert-map}

-- a change of the sheets or the definitions of a book, over which all formulas are kept as these notations say
abbrev pub changed_in : Notations → (Book → Book) → Book → Book
changed_in n change book = change (with_kept_pools n (scene_in book) (scene_in (change book)) book)

-- a book's core, over all formulas kept
pub core_of-kept : (n : Notations) (before after : Scene) (book : Book) → core_of (with_kept_pools n before after book) ≡ with_kept n before after same_keys (core_of book)
core_of-kept n before after book =
    ap (λ (sheets : List CoreSheet). let core : CoreBook = record { sheets = sheets; definitions = map (kept_in_body n before after same_keys) book.definitions; locale = book.locale; language = book.language } in core)
    (sheet_cores-kept n before after book.sheets)

abbrev ids : List Sheet → List ℕ
ids sheets = map (λ (s : CoreSheet). s.id) (map sheet_core sheets)

module _ (n : Notations) (before after : Scene) where
  ids-kept : (sheets : List Sheet) → ids (map (kept_pool n before after) sheets) ≡ ids sheets
  ids-kept [] = refl
  ids-kept (s ∷ sheets) = ap (λ rest. s.id ∷ rest) (ids-kept sheets)

  scopes-kept : (definitions : List Definition) → flat_map (λ d. option_to_list d.scope) (map (in_body n before after) definitions) ≡ flat_map (λ (d : Definition). option_to_list d.scope) definitions
  scopes-kept [] = refl
  scopes-kept (d ∷ definitions) = ap (λ r. option_to_list d.scope ++ r) (scopes-kept definitions)

  pub greatest-kept : (book : Book) → greatest_id (core_of (with_kept_pools n before after book)) ≡ greatest_id (core_of book)
  greatest-kept book = ap₂ (λ a b. greatest (a ++ b)) (ids-kept book.sheets) (scopes-kept book.definitions)

-- a change of a book is, seen by its core, a change of that
abbrev pub IsBookChange : (Book → Book) → (CoreBook → CoreBook) → Type 0
IsBookChange change of_core = (book : Book) → core_of (change book) ≡ of_core (core_of book)

-- a book's core, by its sheets
abbrev with_sheets : Book → List CoreSheet → CoreBook
with_sheets book sheets = record { sheets = sheets; definitions = book.definitions; locale = book.locale; language = book.language }

-- a new sheet has no formulas
no_cells : (id : ℕ) (name : List ℕ) → sheet_core (record { id = id; name = name; pool = []; grid = empty_grid; tab = plain_tab }) ≡ record { id = id; name = name; cells = [] }
no_cells id name = ap (λ (es : List (CellPlace × Cell)). let s : CoreSheet = record { id = id; name = name; cells = cells_of [] es } in s) (entries-empty Cell)

pub added_change : (name : List ℕ) → IsBookChange (with_added_sheet name) (with_new_sheet name)
added_change name book =
    ap (with_sheets book)
    (map-append sheet_core book.sheets (record { id = greatest_id (core_of book) + 1; name = name; pool = []; grid = empty_grid; tab = plain_tab } ∷ [])
    ∙ ap (λ s. map sheet_core book.sheets ++ s ∷ []) (no_cells (greatest_id (core_of book) + 1) name))

pub inserted_change : (index id : ℕ) (name : List ℕ) → IsBookChange (with_inserted_sheet index id name) (with_sheet_among index id name)
inserted_change index id name book =
    ap (with_sheets book)
    (insert-map sheet_core book.sheets index (record { id = id; name = name; pool = []; grid = empty_grid; tab = plain_tab }) ∙ ap (λ (s : CoreSheet). insert (map sheet_core book.sheets) index s) (no_cells id name))

pub renamed_change : (index : ℕ) (name : List ℕ) → IsBookChange (with_renamed_sheet index name) (with_sheet_name index name)
renamed_change index name book = ap (with_sheets book) (updated_seen sheet_core (λ s. record s { name = name }) (λ s. record s { name = name }) (λ s. refl) index book.sheets)

pub removed_change : (index : ℕ) → IsBookChange (with_removed_sheet index) (without_sheet index)
removed_change index book = ap (with_sheets book) (removed_seen sheet_core book.sheets index)

pub defined_change : (new : Definition) → IsBookChange (with_added_definition new) (with_definition new)
defined_change new book = refl

pub undefined_change : (index : ℕ) → IsBookChange (with_removed_definition (Some index)) (without_definition (Some index))
undefined_change index book = refl

-- over such a change the book's core is changed as the machine's is
pub core_of-changed : (n : Notations) (change : Book → Book) (of_core : CoreBook → CoreBook) → IsBookChange change of_core → (book : Book) → core_of (changed_in n change book) ≡ changed_by n of_core (core_of book)
core_of-changed n change of_core is book =
    let after : Scene = scene_in (change book) in
    is (with_kept_pools n (scene_in book) after book)
    ∙ ap of_core (core_of-kept n (scene_in book) after book)
    ∙ ap (λ (core : CoreBook). of_core (with_kept n (scene_in book) (scene_of core) same_keys (core_of book))) (is book)

-- a moved sheet ----

-- what formulas can mention after a change of the machine's book is what they can after that of the book
pub same_scene_after : (change : Book → Book) (of_core : CoreBook → CoreBook) → IsBookChange change of_core → (book : Book) → scene_of (of_core (core_of book)) ≡ scene_in (change book)
same_scene_after change of_core is book = ap scene_of (sym (is book))
