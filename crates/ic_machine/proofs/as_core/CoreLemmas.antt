-- The core of a book over a change of its sheets or its definitions: it is changed as the identity machine's is.
use Rattle.std.proofs.Common.{◌≡◌, ℕ, zero, suc, ◌+◌, List, [], ◌∷◌, ◌++◌, map, length, Option, Some, None, refl, sym, ap, ap₂, ◌∙◌}
use Rattle.std.specs.FinMap as finite
use Rattle.std.specs.Prelude.{insert, remove, option_map}
use Rattle.std.specs.List.{slice_get}
use Rattle.std.specs.Option.{option_to_list}
use Rattle.std.proofs.lemmas.List.{map-append}
use Rattle.std.proofs.lemmas.Option.{slice_get-map}
use Rattle.ic_laws.proofs.core.Lists.{removed_seen, updated_seen}
use Rattle.ic_laws.specs.CoreBook.{CellPlace, Cells, CoreBook, Definition, Sheet, greatest_id, scene_of}
use Rattle.ic_laws.specs.CoreStep as core
use Rattle.ic_laws.specs.CoreStep.{moved, put_back}
use Rattle.ic_laws.specs.Keeping.{kept_formula, kept_in_body, kept_on_sheet, mapped_cells, same_keys, with_kept}
use Rattle.ic_laws.specs.Notations.{Notations, english_function}
use Rattle.ic_laws.specs.declared.scene.Scene.{Scene}
use Rattle.ic_laws.specs.declared.tree.Formula.{Formula}
use Rattle.ic_laws.specs.declared.tree.Formula.TheVariants as formulas
use Rattle.ic_cells.specs.Maps.{place_cmp}
use Rattle.ic_machine.specs.Binds.{with_sheet_among}
use Rattle.ic_machine.specs.Book as book
use Rattle.ic_machine.specs.Book.{Book, Entry, core_cells, core_entry, core_of, core_sheet, empty_sheet, notations_in, scene_in}
use Rattle.ic_machine.specs.Changed.{changed_by, with_definition, with_kept_formulas, with_kept_pool, with_moved_sheet, with_removed_sheet, with_renamed_sheet, without_definition}
use Rattle.ic_machine.specs.Content.{Content, formula_in, formula_index}
use Rattle.ic_machine.specs.subjects.Sheets.{with_inserted_sheet, with_new_sheet}
use Rattle.ic_laws.proofs.General.{insert-map}

-- formulas that are replaced, each by its own ----

pub formula_in-map : (f : Formula → Formula) → f (formulas.Raw []) ≡ formulas.Raw [] → (pool : List Formula) (at : ℕ) → formula_in (map f pool) at ≡ f (formula_in pool at)
formula_in-map f blank [] at = sym blank
formula_in-map f blank (x ∷ pool) zero = refl
formula_in-map f blank (x ∷ pool) (suc at) = formula_in-map f blank pool at

-- a cell with its formula, if it has one
abbrev one_cell : List Formula → CellPlace → Option ℕ → Cells
one_cell pool place o = option_to_list (option_map (λ index. (place, formula_in pool index)) o)

one_cell-map : (f : Formula → Formula) → f (formulas.Raw []) ≡ formulas.Raw [] → (pool : List Formula) (place : CellPlace) (o : Option ℕ) → one_cell (map f pool) place o ≡ mapped_cells f (one_cell pool place o)
one_cell-map f blank pool place None = refl
one_cell-map f blank pool place (Some index) = ap (λ (g : Formula). let all : Cells = (place, g) ∷ [] in all) (formula_in-map f blank pool index)

core_cells-map : (f : Formula → Formula) → f (formulas.Raw []) ≡ formulas.Raw [] → (pool : List Formula) (entries : List Entry) → core_cells (map f pool) entries ≡ mapped_cells f (core_cells pool entries)
core_cells-map f blank pool [] = refl
core_cells-map f blank pool (entry ∷ entries) =
    ap₂ (λ (a b : Cells). let all : Cells = a ++ b in all) (one_cell-map f blank pool entry.0 (formula_index entry.1)) (core_cells-map f blank pool entries)
    ∙ sym (map-append (λ (cell : CellPlace × Formula). (cell.0, f cell.1)) (core_entry pool entry) (core_cells pool entries))

module _ (n : Notations) (before after : Scene) where
  core_sheet-kept : (sheet : book.Sheet) → core_sheet (with_kept_pool n before after same_keys sheet) ≡ kept_on_sheet n before after same_keys (core_sheet sheet)
  core_sheet-kept sheet =
      ap (λ (cells : Cells). let s : Sheet = record { id = sheet.id; name = sheet.name; cells = cells } in s)
      (core_cells-map (kept_formula (english_function n) before after same_keys (Some sheet.id)) refl sheet.pool (finite.entries sheet.grid.contents))

  core_sheets-kept : (sheets : List book.Sheet) → map core_sheet (map (with_kept_pool n before after same_keys) sheets) ≡ map (kept_on_sheet n before after same_keys) (map core_sheet sheets)
  core_sheets-kept [] = refl
  core_sheets-kept (s ∷ sheets) = ap₂ ◌∷◌ (core_sheet-kept s) (core_sheets-kept sheets)

-- a book's core, by its sheets
abbrev with_sheets : Book → List Sheet → CoreBook
with_sheets b sheets = record { sheets = sheets; definitions = b.definitions; locale = b.locale; language = b.language }

-- over all formulas kept
pub core_of-kept : (n : Notations) (before after : Scene) (b : Book) → core_of (with_kept_formulas n before after same_keys b) ≡ with_kept n before after same_keys (core_of b)
core_of-kept n before after b =
    ap (λ (sheets : List Sheet). let core : CoreBook = record { sheets = sheets; definitions = map (kept_in_body n before after same_keys) b.definitions; locale = b.locale; language = b.language } in core)
    (core_sheets-kept n before after b.sheets)

-- over a change that is seen as one of the core
pub core_of-changed : (change : Book → Book) (of_core : CoreBook → CoreBook) → ((b : Book) → core_of (change b) ≡ of_core (core_of b)) → (b : Book) → core_of (changed_by change b) ≡ core.changed_by (notations_in b) of_core (core_of b)
core_of-changed change of_core same b =
    let after : Scene = scene_in (change b) in
    same (with_kept_formulas (notations_in b) (scene_in b) after same_keys b)
    ∙ ap of_core (core_of-kept (notations_in b) (scene_in b) after b)
    ∙ ap (λ (c : CoreBook). of_core (with_kept (notations_in b) (scene_in b) (scene_of c) same_keys (core_of b))) (same b)

-- the changes ----

nothing : {X : Type 0} (xs : List X) → length xs ≡ 0 → xs ≡ []
nothing [] e = refl
nothing (x ∷ xs) e = absurd (let no : suc (length xs) ≡ 0 = e in cc)

-- a new sheet has no cells
pub no_cells : finite.entries (finite.empty {X = Content} {R = place_cmp}) ≡ []
no_cells = nothing (finite.entries (finite.empty {X = Content} {R = place_cmp})) (sym (finite.len-entries (finite.empty {X = Content} {R = place_cmp})) ∙ finite.len-empty place_cmp Content)

core_sheet-empty : (id : ℕ) (name : List ℕ) → core_sheet (empty_sheet id name) ≡ record { id = id; name = name; cells = [] }
core_sheet-empty id name = ap (λ (entries : List Entry). let s : Sheet = record { id = id; name = name; cells = core_cells [] entries } in s) no_cells

pub core_of-added : (name : List ℕ) (b : Book) → core_of (with_new_sheet name b) ≡ core.with_new_sheet name (core_of b)
core_of-added name b =
    ap (with_sheets b)
    (map-append core_sheet b.sheets (empty_sheet (greatest_id (core_of b) + 1) name ∷ [])
    ∙ ap (λ (s : Sheet). map core_sheet b.sheets ++ s ∷ []) (core_sheet-empty (greatest_id (core_of b) + 1) name))

pub core_of-renamed : (index : ℕ) (name : List ℕ) (b : Book) → core_of (with_renamed_sheet index name b) ≡ core.with_sheet_name index name (core_of b)
core_of-renamed index name b =
    ap (with_sheets b) (updated_seen core_sheet (λ s. record s { name = name }) (λ s. record s { name = name }) (λ s. refl) index b.sheets)

pub core_of-removed : (index : ℕ) (b : Book) → core_of (with_removed_sheet index b) ≡ core.without_sheet index (core_of b)
core_of-removed index b = ap (with_sheets b) (removed_seen core_sheet b.sheets index)

pub core_of-inserted : (index id : ℕ) (name : List ℕ) (b : Book) → core_of (with_inserted_sheet index id name b) ≡ with_sheet_among index id name (core_of b)
core_of-inserted index id name b =
    ap (with_sheets b)
    (insert-map core_sheet b.sheets index (empty_sheet id name) ∙ ap (λ (s : Sheet). insert (map core_sheet b.sheets) index s) (core_sheet-empty id name))

pub put_back-map : {X Y : Type 0} (f : X → Y) (to : ℕ) (xs : List X) (o : Option X) → map f (put_back to xs o) ≡ put_back to (map f xs) (option_map f o)
put_back-map f to xs None = refl
put_back-map f to xs (Some x) = insert-map f xs to x

pub moved-map : {X Y : Type 0} (f : X → Y) (from to : ℕ) (xs : List X) → map f (moved from to xs) ≡ moved from to (map f xs)
moved-map f from to xs =
    put_back-map f to (remove xs from) (slice_get xs from)
    ∙ ap₂ (λ ys o. put_back to ys o) (removed_seen f xs from) (sym (slice_get-map f xs from))

pub core_of-moved : (from to : ℕ) (b : Book) → core_of (with_moved_sheet from to b) ≡ record (core_of b) { sheets = moved from to (core_of b).sheets }
core_of-moved from to b = ap (with_sheets b) (moved-map core_sheet from to b.sheets)

pub core_of-defined : (new : Definition) (b : Book) → core_of (with_definition new b) ≡ core.with_definition new (core_of b)
core_of-defined new b = refl

pub core_of-undefined : (index : Option ℕ) (b : Book) → core_of (without_definition index b) ≡ core.without_definition index (core_of b)
core_of-undefined None b = refl
core_of-undefined (Some index) b = refl
