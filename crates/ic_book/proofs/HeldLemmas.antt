-- What a model holds, over each change of its sheets and its notation.
use Rattle.std.proofs.Common.{◌≡◌, ℕ, ℤ, ◌+◌, ◌<◌, IfSome, arith, List, [], ◌∷◌, ◌++◌, true, Option, Some, None, option_map, map, length, get_or, refl, sym, ap, ap₂, subst, ◌∙◌}
use Rattle.std.specs.Prelude.{max, option_and_then, unwrap_or, remove}
use Rattle.std.specs.Borrow.{Bor}
use Rattle.std.specs.FinMap as finite
use Rattle.std.specs.List.{slice_get}
use Rattle.std.proofs.lemmas.List.{length-map}
use Rattle.std.proofs.lemmas.Option.{slice_get-map, slice_get_within}
use Rattle.ic_laws.proofs.keeping.Accepted.{none_holds}
use Rattle.ic_laws.proofs.keeping.Deletes.{delete_dangles}
use Rattle.ic_laws.proofs.keeping.Moves.{move_keeps}
use Rattle.ic_laws.proofs.keeping.Renames.{add_binds, rename_binds, rename_keeps}
use Rattle.ic_laws.specs.BookTrees.{BookKeepsFound, IsMoved, with_body_tree, with_sheet_at_end, with_trees}
use Rattle.ic_laws.specs.Changes.{Change, changed_tree, definition_added, definition_gone, sheet_gone, sheet_named}
use Rattle.ic_laws.specs.CoreBook.{CellPlace, Definition, Sheet as CoreSheet, formula_at, fresh_id, greatest_id, spelling_of}
use Rattle.ic_laws.specs.CoreStep.{add_sheet_causes, add_sheet_refusal, changed_by, delete_refusal, formula_of, move_refusal, moved, rename_causes, rename_refusal, unless_refused, updated_at, with_new_sheet, with_sheet_name, without_sheet}
use Rattle.ic_laws.specs.Greatest.{greatest}
use Rattle.ic_laws.specs.Notations.{AreNotations, Notations}
use Rattle.ic_tables.specs.Tables.{TableSet}
use Rattle.ic_tables.specs.declared.language.Language.{Language}
use Rattle.ic_tables.specs.declared.locale.NamedLocale.{NamedLocale}
use Rattle.ic_tree.proofs.NotationLaws.{notations_are}
use Rattle.ic_definitions.specs.Named.{definitions_scene, scopes_of}
use Rattle.ic_sheets.specs.Rewriting.{changed_pool, sheets_of}
use Rattle.ic_sheets.specs.Sheet as sheets
use Rattle.ic_sheets.specs.Sheet.{HasIndexes, IsValidPool, Sheet, TakesCell, cells_of, empty_grid, formula_cell, plain_tab, sheet_core, sheet_of, with_cell_in}
use Rattle.ic_sheets.specs.declared.sheet.FormulaKind.{FormulaKind}
use Rattle.ic_pool.specs.Pool.{IsPlaced}
use Rattle.ic_laws.specs.declared.tree.Formula.{Formula}
use Rattle.ic_cells.specs.Style.{default_style}
use Rattle.ic_cells.specs.declared.style.Style.{Style}
use Rattle.ic_grid.specs.Shape.{celled}
use Rattle.ic_grid.specs.Style.{style_at}
use Rattle.ic_machine.specs.Refusal as machine
use Rattle.ic_laws.specs.ValidCore.{IsPooled}
use Rattle.ic_laws.proofs.core.Lists.{updated_seen}
use Rattle.ic_parts.specs.Written.{WritesFormula, kind_of, pool_at, value_causes, value_refusal, value_refusal_in, with_cell, with_pool, written_formula, written_style}
use Rattle.ic_parts.proofs.GridLemmas.{its_grid, style_below, takes_cell}
use Rattle.ic_parts.proofs.WholeWritten.{written_valid}
use Rattle.ic_parts.proofs.WrittenLemmas.{core_of-pool, one_of_all}
use Rattle.ic_sheets.specs.declared.sheet.Sheet.{Sheet as HeldSheet}
use Rattle.ic_parts.specs.declared.about.About.{About}
use Rattle.ic_parts.specs.declared.lists.Lists.{Lists}
use Rattle.ic_book.specs.declared.model.Model.TheInside.{Inside}
use Rattle.ic_parts.specs.Book.{Book, IsValidBook, NotationState, core_of, first_sheet_name_in, metadata_made, new_book, notations_in, scene_in}
use Rattle.ic_parts.specs.Change.{book_changed_by, with_added_definition, with_added_sheet, with_moved_sheet, with_removed_definition, with_removed_sheet, with_renamed_sheet}
use Rattle.ic_book.specs.Inside.{IsHeld, held, with_contents, with_sheets, with_styles}
use Rattle.ic_parts.proofs.BookLemmas.{moved-map}
use Rattle.ic_parts.proofs.BookValid.{core_valid, placed_valid, pools_valid}
use Rattle.ic_parts.proofs.ChangeLemmas.{added_is, defined_is, removed_is, renamed_is, undefined_is}
use Rattle.ic_parts.proofs.HeldLemmas.{seen_ids}
use Rattle.ic_parts.proofs.HeldLemmas.{fresh_is}
use Rattle.ic_parts.proofs.HeldLemmas.{there_is}
use Rattle.ic_parts.proofs.HeldLemmas.{there_of}
use Rattle.ic_parts.proofs.HeldLemmas.{greatest_both}
use Rattle.ic_parts.proofs.HeldLemmas.{option_map-twice}
use Rattle.ic_parts.proofs.HeldLemmas.{at_index}

-- a new book
pub start_is : (inside : Inside) (name locale_id language_id zone_id : List ℕ) (zone : Bor (List ℕ)) (locale : NamedLocale) (language : Language) (tables : TableSet)
    → inside.about ≡ record { name = name; zone = zone; theme = []; metadata = metadata_made inside.about.metadata.created } → zone.now ≡ zone_id
    → inside.contents.sheets ≡ record { id = 1; name = first_sheet_name_in language.code; pool = record { formulas = []; is_whole = true }; grid = empty_grid; tab = plain_tab } ∷ []
    → inside.contents.definitions ≡ [] → inside.lists ≡ record { styles = default_style ∷ []; strings = [] } → inside.notation ≡ record { tables = tables; locale = locale.id; language = language.code } → locale.id ≡ locale_id → language.code ≡ language_id
    → held inside ≡ new_book name locale_id zone_id language_id inside.about.metadata.created tables
start_is inside name locale_id language_id zone_id zone locale language tables one there two none lists its three four =
    ap (λ (a : About). make a (map sheet_of inside.contents.sheets) inside.contents.definitions inside.lists inside.notation) one
    ∙ ap (λ (xs : List HeldSheet). make given (map sheet_of xs) inside.contents.definitions inside.lists inside.notation) two
    ∙ ap (λ (xs : List Definition). make given (first language.code) xs inside.lists inside.notation) none ∙ ap (λ (ls : Lists). make given (first language.code) [] ls inside.notation) lists
    ∙ ap (λ (n : NotationState). make given (first language.code) [] empty n) its ∙ ap (λ l. make given (first language.code) [] empty (record { tables = tables; locale = l; language = language.code })) three
    ∙ ap (λ g. make given (first g) [] empty (record { tables = tables; locale = locale_id; language = g })) four ∙ ap (λ z. new_book name locale_id z language_id inside.about.metadata.created tables) there
  where
    given : About
    given = record { name = name; zone = zone; theme = []; metadata = metadata_made inside.about.metadata.created }

    empty : Lists
    empty = record { styles = default_style ∷ []; strings = [] }

    first : List ℕ → List Sheet
    first code = record { id = 1; name = first_sheet_name_in code; pool = []; grid = empty_grid; tab = plain_tab } ∷ []

    make : About → List Sheet → List Definition → Lists → NotationState → Book
    make a ss ds ls n = record {
      name = a.name;
      sheets = ss;
      definitions = ds;
      locale = n.locale;
      language = n.language;
      zone = a.zone.now;
      theme = a.theme;
      metadata = a.metadata;
      styles = ls.styles;
      strings = ls.strings;
      tables = n.tables;
    }

-- ---- changes of the sheets

module _ (inside : Inside) (h : IsHeld inside) where
  abbrev ws : List HeldSheet
  ws = inside.contents.sheets

  abbrev ds : List Definition
  ds = inside.contents.definitions

  abbrev tables : TableSet
  tables = inside.notation.tables

  abbrev book : Book
  book = held inside

  abbrev pub after : List HeldSheet → List Definition → Book
  after now nds = held (with_contents now nds inside)

  abbrev n : Notations
  n = notations_in book

  are : AreNotations (notations_in book)
  are = notations_are tables h.whole.tables

  pub notations : AreNotations (notations_in book)
  notations = are

  pub greatest_is : max (greatest (map (λ (s : HeldSheet). s.id) ws)) (greatest (scopes_of ds)) ≡ greatest_id (core_of book)
  greatest_is = ap (λ ids. max (greatest ids) (greatest (scopes_of ds))) (seen_ids ws) ∙ greatest_both _ (scopes_of ds)

  pub fresh_above : (id : ℕ) → fresh_id (core_of book) ≡ Some id → greatest (map (λ (s : HeldSheet). s.id) ws) < id
  fresh_above id e = let g = fresh_is _ (greatest_id (core_of book)) id e in let same = greatest_is in omega (arith, g, same)

  -- the same with other sheets and definitions
  pub held_after : (now : List HeldSheet) (nds : List Definition) (becomes : Book) → after now nds ≡ becomes → IsValidBook becomes → IsHeld (with_contents now nds inside)
  held_after now nds becomes e valid = subst IsValidBook (sym e) valid

  of_parts : (now : List HeldSheet) (nds : List Definition) (sheets : List Sheet) (definitions : List Definition) → sheets_of now ≡ sheets → nds ≡ definitions → after now nds ≡ record book { sheets = sheets; definitions = definitions }
  of_parts now nds sheets definitions e f = ap₂ (λ (sheets : List Sheet) (definitions : List Definition). let b : Book = record book { sheets = sheets; definitions = definitions } in b) e f

  of_sheets : (now : List HeldSheet) (sheets : List Sheet) → sheets_of now ≡ sheets → after now ds ≡ record book { sheets = sheets }
  of_sheets now sheets e = ap (λ (sheets : List Sheet). let b : Book = record book { sheets = sheets } in b) e

  -- the changes of sheets, told by the definitions alone
  pub same_naming : (id : ℕ) (called : List ℕ) → sheet_named (definitions_scene ds) id called ≡ sheet_named (scene_in book) id called
  same_naming id called = refl

  pub same_going : (id : ℕ) (called : List ℕ) → sheet_gone (definitions_scene ds) id called ≡ sheet_gone (scene_in book) id called
  same_going id called = refl

  module _ (now : List HeldSheet) (nds : List Definition) where
    pub added : (called : List ℕ) (id : ℕ) → add_sheet_refusal (core_of book) called ≡ None → fresh_id (core_of book) ≡ Some id
        → sheets_of now ≡ map (changed_pool (sheet_named (definitions_scene ds) id called)) (sheets_of ws) ++ record { id = id; name = called; pool = []; grid = empty_grid; tab = plain_tab } ∷ [] → nds ≡ map (with_body_tree (changed_tree (sheet_named (definitions_scene ds) id called))) ds
        → after now nds ≡ book_changed_by (with_added_sheet called) book
    added called id none fresh e f =
        of_parts now nds _ _
        (e ∙ ap (λ (change : Change). let all : List Sheet = map (changed_pool change) (sheets_of ws) ++ record { id = id; name = called; pool = []; grid = empty_grid; tab = plain_tab } ∷ [] in all) (same_naming id called))
        (f ∙ ap (λ (change : Change). map (with_body_tree (changed_tree change)) ds) (same_naming id called))
        ∙ sym (added_is n are book (core_valid book h) (pools_valid book h) called id (none_holds (add_sheet_causes (core_of book) called) none).1.0 (fresh_is _ (greatest_id (core_of book)) id fresh))

    pub renamed : (index : ℕ) (called : List ℕ) (s : HeldSheet) → rename_refusal (core_of book) index called ≡ None → slice_get ws index ≡ Some s
        → sheets_of now ≡ updated_at (λ s. record s { name = called }) index (map (changed_pool (sheet_named (definitions_scene ds) s.id called)) (sheets_of ws)) → nds ≡ map (with_body_tree (changed_tree (sheet_named (definitions_scene ds) s.id called))) ds
        → after now nds ≡ book_changed_by (with_renamed_sheet index called) book
    renamed index called s none at e f =
        of_parts now nds _ _
        (e ∙ ap (λ (change : Change). updated_at (λ (s : Sheet). let one : Sheet = record s { name = called } in one) index (map (changed_pool change) (sheets_of ws))) (same_naming s.id called))
        (f ∙ ap (λ (change : Change). map (with_body_tree (changed_tree change)) ds) (same_naming s.id called))
        ∙ sym (renamed_is n are book (core_valid book h) (pools_valid book h) index called (sheet_of s) (slice_get-map sheet_of ws index ∙ ap (option_map sheet_of) at) (none_holds (rename_causes (core_of book) index called) none).1.0)

    pub removed : (index : ℕ) (s : HeldSheet) → slice_get ws index ≡ Some s → sheets_of now ≡ remove (map (changed_pool (sheet_gone (definitions_scene ds) s.id s.name)) (sheets_of ws)) index → nds ≡ map (with_body_tree (changed_tree (sheet_gone (definitions_scene ds) s.id s.name))) ds
        → after now nds ≡ book_changed_by (with_removed_sheet index) book
    removed index s at e f =
        of_parts now nds _ _
        (e ∙ ap (λ (change : Change). remove (map (changed_pool change) (sheets_of ws)) index) (same_going s.id s.name))
        (f ∙ ap (λ (change : Change). map (with_body_tree (changed_tree change)) ds) (same_going s.id s.name)) ∙ sym (removed_is n are book (core_valid book h) (pools_valid book h) index (sheet_of s) (slice_get-map sheet_of ws index ∙ ap (option_map sheet_of) at))

    pub defined : (new : Definition) → sheets_of now ≡ map (changed_pool (definition_added (spelling_of new))) (sheets_of ws) → nds ≡ map (with_body_tree (changed_tree (definition_added (spelling_of new)))) ds ++ new ∷ []
        → after now nds ≡ book_changed_by (with_added_definition new) book
    defined new e f = of_parts now nds _ _ e f ∙ sym (defined_is n are book (core_valid book h) (pools_valid book h) new)

    pub undefined : (index : ℕ) (d : Definition) → slice_get ds index ≡ Some d → sheets_of now ≡ map (changed_pool (definition_gone (definitions_scene (remove ds index)) (spelling_of d))) (sheets_of ws)
        → nds ≡ remove (map (with_body_tree (changed_tree (definition_gone (definitions_scene (remove ds index)) (spelling_of d)))) ds) index → after now nds ≡ book_changed_by (with_removed_definition (Some index)) book
    undefined index d at e f = of_parts now nds _ _ e f ∙ sym (undefined_is n are book (core_valid book h) (pools_valid book h) index d at)

  pub put : (now : List HeldSheet) (from to : ℕ) → now ≡ moved from to ws → after now ds ≡ with_moved_sheet from to book
  put now from to e = of_sheets now _ (ap sheets_of e ∙ moved-map sheet_of from to ws)

  pub binds_added : (called : List ℕ) → add_sheet_refusal (core_of book) called ≡ None
      → changed_by n (with_new_sheet called) (core_of book) ≡ with_sheet_at_end (greatest_id (core_of book) + 1) called (with_trees (changed_tree (sheet_named (scene_in book) (greatest_id (core_of book) + 1) called)) (core_of book))
  binds_added called none = add_binds n (core_of book) _ called [] are (core_valid book h) (ap (λ r. unless_refused r (changed_by n (with_new_sheet called) (core_of book)) []) none)

  pub keeps_renamed : (index : ℕ) (called : List ℕ) → rename_refusal (core_of book) index called ≡ None → BookKeepsFound (core_of book) (changed_by n (with_sheet_name index called) (core_of book))
  keeps_renamed index called none = rename_keeps n (core_of book) _ index called [] are (core_valid book h) (ap (λ r. unless_refused r (changed_by n (with_sheet_name index called) (core_of book)) []) none)

  pub binds_renamed : (index : ℕ) (called : List ℕ) (sheet : CoreSheet) → rename_refusal (core_of book) index called ≡ None → slice_get (core_of book).sheets index ≡ Some sheet
      → changed_by n (with_sheet_name index called) (core_of book) ≡ with_sheet_name index called (with_trees (changed_tree (sheet_named (scene_in book) sheet.id called)) (core_of book))
  binds_renamed index called sheet none at = rename_binds n (core_of book) _ index called sheet [] are (core_valid book h) at (ap (λ r. unless_refused r (changed_by n (with_sheet_name index called) (core_of book)) []) none)

  pub dangles_removed : (index : ℕ) (sheet : CoreSheet) → delete_refusal (core_of book) index ≡ None → slice_get (core_of book).sheets index ≡ Some sheet
      → changed_by n (without_sheet index) (core_of book) ≡ without_sheet index (with_trees (changed_tree (sheet_gone (scene_in book) sheet.id sheet.name)) (core_of book))
  dangles_removed index sheet none at = delete_dangles n (core_of book) _ index sheet [] are (core_valid book h) at (ap (λ r. unless_refused r (changed_by n (without_sheet index) (core_of book)) []) none)

  pub keeps_moved : (from to : ℕ) → move_refusal (core_of book) from to ≡ None → IsMoved from to (core_of book) (record (core_of book) { sheets = moved from to (core_of book).sheets })
  keeps_moved from to none = move_keeps n (core_of book) _ from to [] (core_valid book h) (ap (λ r. unless_refused r (record (core_of book) { sheets = moved from to (core_of book).sheets }) []) none)

  -- ---- formulas

  module _ (index : ℕ) (s : HeldSheet) where
    in_book : slice_get ws index ≡ Some s → slice_get book.sheets index ≡ Some (sheet_of s)
    in_book at = slice_get-map sheet_of ws index ∙ ap (option_map sheet_of) at

    pub places_of : slice_get ws index ≡ Some s → HasIndexes (length s.pool.formulas) s.grid
    places_of at = (one_of_all (IsValidPool n (scene_in book)) index book.sheets (sheet_of s) (in_book at) (pools_valid book h)).indexes

    -- a formula that it keeps is settled there
    pub pooled_at : slice_get ws index ≡ Some s → (place : ℕ) (formula : Formula) → slice_get s.pool.formulas place ≡ Some formula → IfSome (slice_get book.sheets index) (λ s. IsPooled n (scene_in book) (Some s.id) formula)
    pooled_at at place formula there =
        subst (λ o. IfSome o (λ (s : Sheet). IsPooled n (scene_in book) (Some s.id) formula)) (sym (in_book at))
        (one_of_all (IsPooled n (scene_in book) (Some s.id)) place s.pool.formulas formula there (one_of_all (IsValidPool n (scene_in book)) index book.sheets (sheet_of s) (in_book at) (pools_valid book h)).formulas)

    -- the same of what is lent of its pool
    pub pooled_of : (lent : Option (Bor Formula)) (place : ℕ) → slice_get ws index ≡ Some s → option_map (λ f. f.now) lent ≡ slice_get s.pool.formulas place → IfSome lent (λ f. IfSome (slice_get book.sheets index) (λ s. IsPooled n (scene_in book) (Some s.id) f.now))
    pooled_of None place at e = tt
    pooled_of (Some f) place at e = pooled_at at place f.now (sym e)

    pub formula_in_pool : (place : ℕ) → slice_get ws index ≡ Some s → slice_get s.pool.formulas place ≡ option_and_then (λ (s : Sheet). slice_get s.pool place) (slice_get book.sheets index)
    formula_in_pool place at = sym (ap (option_and_then (λ (s : Sheet). slice_get s.pool place)) (in_book at))

    pub formula_of_is : (row column : ℤ) → slice_get ws index ≡ Some s → formula_of (core_of book) index row column ≡ formula_at (cells_of s.pool.formulas (finite.entries s.grid.cells)) row column
    formula_of_is row column at =
        ap (option_and_then (λ (sheet : CoreSheet). formula_at sheet.cells row column)) (slice_get-map sheet_core book.sheets index ∙ ap (option_map sheet_core) (in_book at))

    -- and all that stand in it
    pub cells_are : slice_get ws index ≡ Some s → option_map (λ (sheet : CoreSheet). sheet.cells) (slice_get (core_of book).sheets index) ≡ Some (cells_of s.pool.formulas (finite.entries s.grid.cells))
    cells_are at = ap (option_map (λ (sheet : CoreSheet). sheet.cells)) (slice_get-map sheet_core book.sheets index ∙ ap (option_map sheet_core) (in_book at))

  pub pool_at_is : (index : ℕ) → sheets.pool_at ws index ≡ pool_at book index
  pool_at_is index = ap (λ o. unwrap_or o []) (sym (ap (option_map (λ (s : Sheet). s.pool)) (slice_get-map sheet_of ws index) ∙ option_map-twice sheet_of (λ (s : Sheet). s.pool) (slice_get ws index)))

  module _ (now : List HeldSheet) (index : ℕ) where
    pub placed : (pool : List Formula) → now ≡ updated_at (λ s. record s { pool = record { formulas = pool; is_whole = true } }) index ws → after now ds ≡ with_pool index pool book
    placed pool e = of_sheets now _ (ap sheets_of e ∙ updated_seen sheet_of (λ s. record s { pool = record { formulas = pool; is_whole = true } }) (λ s. record s { pool = pool }) (λ s. refl) index ws)

    module _ (s : HeldSheet) (at : slice_get ws index ≡ Some s) (formula : Formula) (place : ℕ) (pool : List Formula) (is_placed : IsPlaced formula place (sheets.pool_at ws index) pool) where
      there : IsPlaced formula place s.pool.formulas pool
      there = subst (λ o. IsPlaced formula place (unwrap_or (option_map (λ (s : HeldSheet). s.pool.formulas) o) []) pool) at is_placed

      pub placed_core : now ≡ updated_at (λ s. record s { pool = record { formulas = pool; is_whole = true } }) index ws → core_of (after now ds) ≡ core_of book
      placed_core e = ap core_of (placed pool e) ∙ core_of-pool n book index (sheet_of s) (in_book index s at) formula place pool there (pools_valid book h)

      pub placed_held : now ≡ updated_at (λ s. record s { pool = record { formulas = pool; is_whole = true } }) index ws → IsPooled n (scene_in book) (Some s.id) formula → IsHeld (with_sheets now inside)
      placed_held e pooled = held_after now ds (with_pool index pool book) (placed pool e) (placed_valid book h index (sheet_of s) (in_book index s at) place pool formula there pooled)

  -- a formula that is written, in the style of this number, by these styles
  module _ (now : List HeldSheet) (index : ℕ) (s : HeldSheet) (at : slice_get ws index ≡ Some s) (place : CellPlace) (body : List ℕ) (formula : Formula) (kind : FormulaKind) (number : ℕ) (styles : List Style) (k : ℕ) (pool : List Formula)
      (is_placed : IsPlaced formula k (sheets.pool_at ws index) pool) (is : formula ≡ written_formula book (sheet_of s) place body) (of_kind : kind ≡ kind_of tables.kinds formula)
      (numbered : number ≡ (written_style book (sheet_of s) place).number) (styled : styles ≡ (written_style book (sheet_of s) place).styles)
      (e : now ≡ updated_at (λ s. record s { pool = record { formulas = pool; is_whole = true }; grid = with_cell_in place (formula_cell kind k number) s.grid }) index ws)
    where
      pub written : WritesFormula index (sheet_of s) place body (held inside) (held (with_styles styles (with_sheets now inside)))
      written = record {
        pool = pool;
        at = k;
        placed = subst (λ f. IsPlaced f k s.pool.formulas pool) is (there now index s at formula k pool is_placed);
        is =
            ap₂ (λ (ss : List Sheet) (st : List Style). let b : Book = record book { sheets = ss; styles = st } in b)
            (ap sheets_of e
            ∙ updated_seen sheet_of (λ s. record s { pool = record { formulas = pool; is_whole = true }; grid = with_cell_in place (formula_cell kind k number) s.grid }) (λ s. record s { pool = pool; grid = with_cell_in place (formula_cell kind k number) s.grid }) (λ s. refl) index ws)
            styled
            ∙ ap₂ (λ (kd : FormulaKind) (nr : ℕ). with_cell index pool place (formula_cell kd k nr) (written_style book (sheet_of s) place).styles book) (of_kind ∙ ap (kind_of tables.kinds) is) numbered;
      }

      pub written_held : machine.first_refusal (value_causes s.grid place) ≡ None → IsHeld (with_styles styles (with_sheets now inside))
      written_held none = written_valid book h index place body (sheet_of s) (in_book index s at) (held (with_styles styles (with_sheets now inside))) written none

  -- a place that nothing refuses finds its sheet, which takes a cell there
  module _ (index : ℕ) (place : CellPlace) (none : value_refusal (held inside) index place.0 place.1 ≡ None) where
    some_sheet : (o : Option Sheet) → value_refusal_in place o ≡ None → (s : Sheet) × (o ≡ Some s)
    some_sheet None e = cc
    some_sheet (Some s) e = (s, refl)

    pub is_within : index < length ws
    is_within =
        let found = some_sheet (slice_get book.sheets index) none in
        subst (λ k. index < k) (length-map ws sheet_of) (slice_get_within book.sheets index found.0 found.1)

    pub entry_at : (slice : List HeldSheet) (s : HeldSheet) → slice ≡ ws → s ≡ get_or slice index s → slice_get ws index ≡ Some s
    entry_at slice s same read = at_index slice ws index s same (there_of ws slice index same (there_is ws index is_within)) read

    module _ (s : HeldSheet) (at : slice_get ws index ≡ Some s) where
      pub clear_at : machine.first_refusal (value_causes s.grid place) ≡ None
      clear_at = sym (ap (value_refusal_in place) (in_book index s at)) ∙ none

      pub takes_there : IfSome (slice_get ws index) (λ (s : HeldSheet). TakesCell place s.grid)
      takes_there = subst (λ o. IfSome o (λ (s : HeldSheet). TakesCell place s.grid)) (sym at) (takes_cell s.grid place (its_grid book h index (sheet_of s) (in_book index s at)) clear_at)

  pub style_within : (index : ℕ) (place : CellPlace) (s : HeldSheet) → slice_get ws index ≡ Some s → style_at celled s.grid.cells s.grid.rows s.grid.columns place < length inside.lists.styles
  style_within index place s at = style_below book h index (sheet_of s) (in_book index s at) place

  -- the same book, where styles that were added are taken back
  pub book_again : (styles : List Style) (now : List HeldSheet) → styles ≡ inside.lists.styles → sheets_of now ≡ sheets_of ws → held (with_styles styles (with_sheets now inside)) ≡ held inside
  book_again styles now same sheets = ap₂ (λ (ss : List Sheet) (st : List Style). let b : Book = record book { sheets = ss; styles = st } in b) sheets same

  pub held_again : (styles : List Style) (now : List HeldSheet) → styles ≡ inside.lists.styles → sheets_of now ≡ sheets_of ws → IsHeld (with_styles styles (with_sheets now inside))
  held_again styles now same sheets = subst IsValidBook (sym (book_again styles now same sheets)) h
