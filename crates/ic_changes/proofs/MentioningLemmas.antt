-- What is listed of sheets and definitions as mentioning something is what the machine says of them.
use Rattle.std.proofs.Common.{◌≡◌, ℕ, ◌<◌, ◌+◌, append_assoc, drop, length, List, [], ◌∷◌, ◌++◌, map, Bool, true, false, cond, Option, Some, None, option_map, refl, sym, ap, ap₂, ◌∙◌, get_or, position}
use Rattle.std.proofs.lemmas.List.{drop_more, map-append}
use Rattle.std.proofs.lemmas.List.Quantifiers.{position-Some}
use Rattle.std.proofs.lemmas.Option.{slice_get-map}
use Rattle.std.specs.FinMap as finite
use Rattle.std.specs.List.{slice_get}
use Rattle.std.specs.Option.{option_map_or}
use Rattle.std.specs.Prelude.{flat_map, unwrap_or}
use Rattle.ic_laws.proofs.keeping.NameChanges.{same_key_from}
use Rattle.ic_laws.specs.CoreBook.{CellPlace, CoreBook, Definition, spelling_of}
use Rattle.ic_laws.specs.CoreStep.{has_definition, is_named, scope_of, scope_or_none}
use Rattle.ic_laws.specs.Name.{fold}
use Rattle.ic_laws.specs.Refusal.{InvalidScope, InvalidSheet, NameNotFound}
use Rattle.ic_laws.specs.Scene.{key_of}
use Rattle.ic_laws.specs.declared.tree.Formula.{Formula}
use Rattle.ic_laws.specs.declared.tree.Formula.TheVariants as formulas
use Rattle.ic_laws.specs.declared.tree.NameKey.{NameKey}
use Rattle.ic_cells.specs.Cell.{cell_formula_index}
use Rattle.ic_cells.specs.declared.cell.Cell.{Cell}
use Rattle.ic_definitions.specs.Named.{key_in}
use Rattle.ic_machine.proofs.contents.AlikeGrid.{entries-seen}
use Rattle.ic_machine.specs.Book as machine
use Rattle.ic_machine.specs.Book.{Entry}
use Rattle.ic_machine.specs.Content.{content_of, formula_in, formula_index}
use Rattle.ic_machine.specs.Refusal.{CellSite, DefinitionSite, Site}
use Rattle.ic_machine.specs.Sites.{name_sites_refusal, passing_body, passing_cell, passing_cells, sheet_sites_refusal, sites_of_name, sites_of_name_in, sites_of_sheet, sites_of_sheet_at}
use Rattle.ic_pool.specs.Mentioning.{passes_at}
use Rattle.ic_sheets.specs.Rewriting.{sheets_of}
use Rattle.ic_sheets.specs.Sheet.{Sheet, sheet_core, sheet_of}
use Rattle.ic_sheets.specs.declared.sheet.Sheet.{Sheet as HeldSheet}
use Rattle.ic_parts.specs.Book.{Book, core_of, whole_of, whole_sheet}
use Rattle.ic_changes.specs.Mentioning.{cells_passing, definition_passing, mentions}
use Rattle.ic_parts.specs.Sites.{site_if, site_of, sites_in}
use Rattle.ic_changes.specs.declared.mentioning.Sought.{Sought}
use Rattle.ic_changes.specs.declared.mentioning.Sought.TheVariants as sought
use Rattle.ic_parts.specs.declared.sites.MentionSite.{MentionSite}
use Rattle.ic_parts.specs.declared.sites.MentionSite.TheVariants as sites
use Rattle.ic_parts.proofs.ExtendLemmas.{none_past, some_within}
use Rattle.ic_parts.proofs.NameLemmas.{scope_is}
use Rattle.ic_parts.proofs.WholeLemmas.{index_seen}

-- a text that doesn't read mentions nothing
pub nothing_in_raw : (s : Sought) → mentions s (formulas.Raw []) ≡ false
nothing_in_raw (sought.Sheet id) = refl
nothing_in_raw (sought.Name key) = refl

module _ (test : Formula → Bool) (raw_fails : test (formulas.Raw []) ≡ false) where
  passes_in : (pool : List Formula) (index : ℕ) → passes_at test pool index ≡ test (formula_in pool index)
  passes_in pool index = by_item (slice_get pool index)
    where
      by_item : (o : Option Formula) → option_map_or test o false ≡ test (unwrap_or o (formulas.Raw []))
      by_item None = sym raw_fails
      by_item (Some x) = refl

  module _ (strings : List (List ℕ)) (s : Sheet) where
    cell_seen : (place : CellPlace) (o : Option ℕ) → map site_of (site_if s.id (passes_at test s.pool) place o) ≡ passing_cell test (whole_sheet strings s) place o
    cell_seen place None = refl
    cell_seen place (Some index) = by_test (passes_at test s.pool index) ∙ ap (λ b. let all : List Site = cond b (CellSite s.id place ∷ []) [] in all) (passes_in s.pool index)
      where
        by_test : (b : Bool) → map site_of (cond b (sites.Cell s.id place.0 place.1 ∷ []) []) ≡ cond b (CellSite s.id place ∷ []) []
        by_test true = refl
        by_test false = refl

    cells_seen : (es : List (CellPlace × Cell)) → map site_of (sites_in s.id (passes_at test s.pool) es)
        ≡ flat_map (λ (entry : Entry). passing_cell test (whole_sheet strings s) entry.0 (formula_index entry.1)) (map (λ (e : CellPlace × Cell). let read : Entry = (e.0, content_of strings e.1) in read) es)
    cells_seen [] = refl
    cells_seen (e ∷ es) =
        map-append site_of (site_if s.id (passes_at test s.pool) e.0 (cell_formula_index e.1)) (sites_in s.id (passes_at test s.pool) es)
        ∙ ap₂ (λ (a b : List Site). a ++ b) (cell_seen e.0 (cell_formula_index e.1) ∙ ap (passing_cell test (whole_sheet strings s) e.0) (sym (index_seen strings e.1))) (cells_seen es)

  sheet_seen : (strings : List (List ℕ)) (s : HeldSheet) → map site_of (cells_passing test s) ≡ passing_cells test (whole_sheet strings (sheet_of s))
  sheet_seen strings s =
      cells_seen strings (sheet_of s) (finite.entries s.grid.cells)
      ∙ ap (flat_map (λ (entry : Entry). passing_cell test (whole_sheet strings (sheet_of s)) entry.0 (formula_index entry.1))) (sym (entries-seen (content_of strings) s.grid.cells))

  pub sheets_seen : (strings : List (List ℕ)) (ss : List HeldSheet) → map site_of (flat_map (cells_passing test) ss) ≡ flat_map (passing_cells test) (map (whole_sheet strings) (sheets_of ss))
  sheets_seen strings [] = refl
  sheets_seen strings (s ∷ ss) = map-append site_of (cells_passing test s) (flat_map (cells_passing test) ss) ∙ ap₂ (λ (a b : List Site). a ++ b) (sheet_seen strings s) (sheets_seen strings ss)

  body_seen : (d : Definition) → map site_of (definition_passing test d) ≡ passing_body test d
  body_seen d = by_test (test d.body)
    where
      by_test : (b : Bool) → map site_of (cond b (sites.Definition (key_in d) ∷ []) []) ≡ cond b (DefinitionSite (key_of (spelling_of d)) ∷ []) []
      by_test true = refl
      by_test false = refl

  pub bodies_seen : (ds : List Definition) → map site_of (flat_map (definition_passing test) ds) ≡ flat_map (passing_body test) ds
  bodies_seen [] = refl
  bodies_seen (d ∷ ds) = map-append site_of (definition_passing test d) (flat_map (definition_passing test) ds) ∙ ap₂ (λ (a b : List Site). a ++ b) (body_seen d) (bodies_seen ds)

-- ---- the sheet at an index

no_item : {A : Type 0} (f : A → ℕ) (o : Option A) → option_map f o ≡ None → o ≡ None
no_item f None e = refl
no_item f (Some x) e = cc

some_item : {A : Type 0} (f : A → ℕ) (o : Option A) (id : ℕ) → option_map f o ≡ Some id → (x : A) × (o ≡ Some x)
some_item f None id e = cc
some_item f (Some x) id e = (x, refl)

module _ (book : Book) (index : ℕ) where
  pub no_sheet : option_map (λ (s : Sheet). s.id) (slice_get book.sheets index) ≡ None → sheet_sites_refusal (core_of book) index ≡ Some InvalidSheet
  no_sheet e =
      let past = none_past (map sheet_core book.sheets) index (slice_get-map sheet_core book.sheets index ∙ ap (option_map sheet_core) (no_item (λ (s : Sheet). s.id) (slice_get book.sheets index) e)) in
      rw past refl

  module _ (id : ℕ) (e : option_map (λ (s : Sheet). s.id) (slice_get book.sheets index) ≡ Some id) where
    pub sheet_there : sheet_sites_refusal (core_of book) index ≡ None
    sheet_there =
        let item = some_item (λ (s : Sheet). s.id) (slice_get book.sheets index) id e in
        let within = some_within (map sheet_core book.sheets) index (sheet_core item.0) (slice_get-map sheet_core book.sheets index ∙ ap (option_map sheet_core) item.1) in
        rw within refl

    pub sites_there : sites_of_sheet id (whole_of book) ≡ sites_of_sheet_at index (whole_of book)
    sites_there =
        let item = some_item (λ (s : Sheet). s.id) (slice_get book.sheets index) id e in
        let its : item.0.id ≡ id = (let two : Some item.0.id ≡ Some id = ap (option_map (λ (s : Sheet). s.id)) (sym item.1) ∙ e in cc) in
        sym
        (ap (λ (o : Option machine.Sheet). option_map_or (λ (s : machine.Sheet). sites_of_sheet s.id (whole_of book)) o []) (slice_get-map (whole_sheet book.strings) book.sheets index ∙ ap (option_map (whole_sheet book.strings)) item.1)
        ∙ ap (λ (n : ℕ). sites_of_sheet n (whole_of book)) its)

-- ---- the definition of a name

pub key_is : (name : List ℕ) (id : Option ℕ) (ds : List Definition) (at : ℕ) (d : Definition) → position (is_named name id) ds ≡ Some at → d ≡ get_or ds at d → key_of (spelling_of d) ≡ record { name = fold name; scope = id }
key_is name id ds at d found read =
    same_key_from (key_of (spelling_of d)) (record { name = fold name; scope = id }) (ap (is_named name id) read ∙ (position-Some (is_named name id) ds at d found).1)

module _ (core : CoreBook) (name : List ℕ) (index : Option ℕ) where
  pub no_scope : scope_of core index ≡ None → name_sites_refusal core name index ≡ Some InvalidScope
  no_scope e = rw e refl

  module _ (id : Option ℕ) (scope : scope_of core index ≡ Some id) where
    pub no_name : has_definition core name id ≡ false → name_sites_refusal core name index ≡ Some NameNotFound
    no_name free = rw scope (rw free refl)

    pub name_there : has_definition core name id ≡ true → name_sites_refusal core name index ≡ None
    name_there taken = rw scope (rw taken refl)

pub named_sites : (book : Book) (name : List ℕ) (index : Option ℕ) (id : Option ℕ) (key : NameKey) → scope_of (core_of book) index ≡ Some id → key ≡ record { name = fold name; scope = id } → (seen : machine.core_of (whole_of book) ≡ core_of book)
    → sites_of_name key (whole_of book) ≡ sites_of_name_in name index (whole_of book)
named_sites book name index id key scope is seen =
    ap (λ k. sites_of_name k (whole_of book))
    (is ∙ ap (λ s. let k : NameKey = record { name = fold name; scope = s } in k) (sym (ap (λ c. scope_or_none c index) seen ∙ scope_is (core_of book) index id scope)))

-- ---- sheet by sheet

pub next_listed : {X : Type 0} (f : X → List MentionSite) (xs : List X) (i : ℕ) (x : X) (items new all : List MentionSite) → i < length xs → x ≡ get_or xs i x → items ++ flat_map f (drop i xs) ≡ all → new ≡ items ++ f x → new ++ flat_map f (drop (i + 1) xs) ≡ all
next_listed f xs i x items new all below item so_far put =
    ap (λ v. v ++ flat_map f (drop (i + 1) xs)) put ∙ append_assoc items (f x) (flat_map f (drop (i + 1) xs))
    ∙ ap (λ ys. items ++ flat_map f ys) (ap (λ y. y ∷ drop (i + 1) xs) item ∙ sym (drop_more xs i x below)) ∙ so_far
