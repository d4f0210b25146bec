-- Sheets and definitions that get what their records hold, one after another.
use Rattle.std.proofs.Common.{◌≡◌, ◌∙◌, ◌<◌, ◌≤◌, ◌+◌, ℕ, zero, suc, List, [], ◌∷◌, Bool, false, Some, None, map, length, get_or, take, refl, sym, ap, ap₂, subst, arith}
use Rattle.std.proofs.lemmas.List.{length-map}
use Rattle.std.specs.List.{AllByRecursion}
use Rattle.ic_laws.specs.CoreBook.{Definition, spelling_of}
use Rattle.ic_laws.specs.CoreStep.{updated_at}
use Rattle.ic_laws.specs.declared.scene.NameSpelling.{NameSpelling}
use Rattle.ic_laws.specs.declared.scene.Scene.{Scene}
use Rattle.ic_laws.specs.declared.scene.SheetName.{SheetName}
use Rattle.ic_laws.specs.declared.tree.Formula.{Formula}
use Rattle.ic_tables.specs.Tables.{TableSet}
use Rattle.ic_cells.specs.declared.sheet.Worksheet.{Worksheet}
use Rattle.ic_cells.specs.declared.workbook.DefinedName.{DefinedName}
use Rattle.ic_cells.specs.declared.workbook.Workbook.{Workbook}
use Rattle.ic_grid.specs.declared.grid.Grid.{Grid}
use Rattle.ic_pool.specs.Pool.{PoolState}
use Rattle.ic_sheets.specs.Records.{started}
use Rattle.ic_sheets.specs.declared.sheet.Sheet.{Sheet as HeldSheet}
use Rattle.ic_sheets.specs.declared.tab.Tab.{Tab}
use Rattle.ic_workbooks.specs.Asked.{unread}
use Rattle.ic_workbooks.specs.Filled.{AreFilled, FillsDefinition, FillsDefinitions, FillsSheet, FillsSheets, HasBodyText, HasSheetTexts, body_read, contents_scene, defined, filled, filled_with, numbered_grid, pool_read, record_tab}
use Rattle.ic_workbooks.specs.HandedIn.{IsFormula, definition_of, formula_or_none, scene_of}
use Rattle.ic_parts.specs.Scene.{named, scene_of_parts}
use Rattle.ic_workbooks.specs.Texts.{record_body_in}
use Rattle.ic_parts.specs.declared.contents.Contents.{Contents}
use Rattle.ic_workbooks.proofs.AskedLemmas.{all_end, all_next, not_all}
use Rattle.ic_workbooks.proofs.MeetsLemmas.{started_scene}

-- ---- a list whose items are changed one after another

module _ {W S : Type 0} (before after : W → S) where
  -- what there is where those before a place are changed
  abbrev pub parted : ℕ → List W → List S
  parted i [] = []
  parted zero (w ∷ ws) = before w ∷ map before ws
  parted (suc i) (w ∷ ws) = after w ∷ parted i ws

  pub parted_start : (ws : List W) → parted 0 ws ≡ map before ws
  parted_start [] = refl
  parted_start (w ∷ ws) = refl

  pub parted_end : (i : ℕ) (ws : List W) → length ws ≤ i → parted i ws ≡ map after ws
  parted_end i [] le = refl
  parted_end zero (w ∷ ws) le = absurd (omega (arith, le))
  parted_end (suc i) (w ∷ ws) le = ap (λ (xs : List S). after w ∷ xs) (parted_end i ws (omega (arith, le)))

  pub parted_length : (i : ℕ) (ws : List W) → length (parted i ws) ≡ length ws
  parted_length i [] = refl
  parted_length zero (w ∷ ws) = ap suc (length-map ws before)
  parted_length (suc i) (w ∷ ws) = ap suc (parted_length i ws)

  pub parted_next : (change : S → S) (i : ℕ) (w : W) (ws : List W) → i < length ws → w ≡ get_or ws i w → change (before w) ≡ after w → updated_at change i (parted i ws) ≡ parted (suc i) ws
  parted_next change i w [] lt item makes = absurd (omega (arith, lt))
  parted_next change zero w (x ∷ ws) lt item makes = ap₂ (λ (y : S) (ys : List S). y ∷ ys) (ap (λ v. change (before v)) (sym item) ∙ makes ∙ ap after item) (sym (parted_start ws))
  parted_next change (suc i) w (x ∷ ws) lt item makes = ap (λ (ys : List S). after x ∷ ys) (parted_next change i w ws (omega (arith, lt)) item makes)

  -- what stays of each item stays
  pub parted_seen : {A : Type 0} (see : S → A) → ((w : W) → see (after w) ≡ see (before w)) → (i : ℕ) (ws : List W) → map see (parted i ws) ≡ map see (map before ws)
  parted_seen see same i [] = refl
  parted_seen see same zero (w ∷ ws) = refl
  parted_seen {A} see same (suc i) (w ∷ ws) = ap₂ (λ (y : A) (ys : List A). y ∷ ys) (same w) (parted_seen see same i ws)

-- ---- what a sheet gets, piece by piece

pub filled_so : (tables : TableSet) (scene : Scene) (numbers : List ℕ) (s : Worksheet) (index : ℕ) (sheets : List HeldSheet) (pool : PoolState) (grid : Grid) (tab : Tab) → pool ≡ pool_read tables scene s → grid ≡ numbered_grid numbers s → tab ≡ record_tab s
    → updated_at (λ (x : HeldSheet). record x { pool = pool; grid = grid; tab = tab }) index sheets ≡ updated_at (filled_with tables scene numbers s) index sheets
filled_so tables scene numbers s index sheets pool grid tab a b c = λ i. updated_at (λ (x : HeldSheet). record x { pool = a i; grid = b i; tab = c i }) index sheets

-- none of its formulas is found yet
pub none_looks_up : (tables : TableSet) (scene : Scene) (numbers : List ℕ) (ws : List Worksheet) → map (λ (x : HeldSheet). x.pool.is_whole) (map (filled tables scene numbers) ws) ≡ map (λ (s : Worksheet). false) ws
none_looks_up tables scene numbers [] = refl
none_looks_up tables scene numbers (s ∷ ws) = ap (λ (rest : List Bool). false ∷ rest) (none_looks_up tables scene numbers ws)

-- ---- a body

module _ (tables : TableSet) (scene : Scene) (name : DefinedName) where
  pub body_found : (body : Formula) → Some body ≡ record_body_in tables scene name → HasBodyText tables scene name × (body ≡ body_read tables scene name)
  body_found body e = (subst IsFormula e tt, ap formula_or_none e)

  pub body_lacks : None ≡ record_body_in tables scene name → HasBodyText tables scene name → ⊥
  body_lacks e h = subst IsFormula (sym e) h

-- ---- sheets

module _ (tables : TableSet) (numbers : List ℕ) (ws : List Worksheet) (before : Contents) where
  abbrev scene : Scene
  scene = contents_scene before

  -- those before a place have got what their records hold
  pub record SheetsTo (i : ℕ) (now : Contents) : Type 0 where
    pub texts : AllByRecursion (HasSheetTexts tables scene) (take i ws)
    pub sheets : now.sheets ≡ parted started (filled tables scene numbers) i ws
    pub definitions : now.definitions ≡ before.definitions

  module _ (fresh : before.sheets ≡ map started ws) where
    pub sheets_start : (now : Contents) → now ≡ before → SheetsTo 0 now
    sheets_start now same = record {
      texts = tt;
      sheets = ap (λ (c : Contents). c.sheets) same ∙ fresh ∙ sym (parted_start started (filled tables scene numbers) ws);
      definitions = ap (λ (c : Contents). c.definitions) same;
    }

    pub sheets_end : (i : ℕ) (now : Contents) → SheetsTo i now → length ws ≤ i → FillsSheets tables numbers ws before now
    sheets_end i now done end = record {
      texts = all_end (HasSheetTexts tables scene) ws i done.texts end;
      sheets = done.sheets ∙ parted_end started (filled tables scene numbers) i ws end;
      definitions = done.definitions;
    }

    module _ (i : ℕ) (now : Contents) (done : SheetsTo i now) where
      -- what formulas can mention stays
      pub sheets_scene : contents_scene now ≡ contents_scene before
      sheets_scene = ap₂ scene_of_parts done.sheets done.definitions ∙ same
        where
          same : scene_of_parts (parted started (filled tables scene numbers) i ws) before.definitions ≡ contents_scene before
          same = λ k. record {
            sheets = (parted_seen started (filled tables scene numbers) named (λ s. refl) i ws ∙ ap (map named) (sym fresh)) k;
            names = map spelling_of before.definitions;
          }

      pub sheets_there : i < length ws → i < length now.sheets
      sheets_there lt = let e = ap length done.sheets ∙ parted_length started (filled tables scene numbers) i ws in omega (arith, lt, e)

      module _ (next : ℕ) (s : Worksheet) (is_next : i + 1 ≡ next) (below : i < length ws) (item : s ≡ get_or ws i s) where
        pub sheets_next : (after : Contents) → FillsSheet tables numbers i s now after → SheetsTo next after
        sheets_next after made = record {
          texts = all_next (HasSheetTexts tables scene) ws i next s is_next below item done.texts (subst (λ (x : Scene). HasSheetTexts tables x s) sheets_scene made.texts);
          sheets = made.sheets
              ∙ ap₂ (λ (x : Scene) (ss : List HeldSheet). updated_at (filled_with tables x numbers s) i ss) sheets_scene done.sheets
              ∙ parted_next started (filled tables scene numbers) (filled_with tables scene numbers s) i s ws below item refl
              ∙ ap (λ n. parted started (filled tables scene numbers) n ws) (let e : suc i ≡ next = omega (arith, is_next) in e);
          definitions = made.definitions ∙ done.definitions;
        }

        pub sheet_broken : (HasSheetTexts tables (contents_scene now) s → ⊥) → AllByRecursion (HasSheetTexts tables (contents_scene before)) ws → ⊥
        sheet_broken not = not_all (HasSheetTexts tables scene) ws i next s is_next below item (λ h. not (subst (λ (x : Scene). HasSheetTexts tables x s) (sym sheets_scene) h))

-- ---- definitions

module _ (tables : TableSet) (names : List DefinedName) (before : Contents) where
  abbrev scene_there : Scene
  scene_there = contents_scene before

  pub record DefinitionsTo (i : ℕ) (now : Contents) : Type 0 where
    pub texts : AllByRecursion (HasBodyText tables scene_there) (take i names)
    pub definitions : now.definitions ≡ parted unread (defined tables scene_there) i names
    pub sheets : now.sheets ≡ before.sheets

  module _ (fresh : before.definitions ≡ map unread names) where
    pub definitions_start : (now : Contents) → now ≡ before → DefinitionsTo 0 now
    definitions_start now same = record {
      texts = tt;
      definitions = ap (λ (c : Contents). c.definitions) same ∙ fresh ∙ sym (parted_start unread (defined tables scene_there) names);
      sheets = ap (λ (c : Contents). c.sheets) same;
    }

    pub definitions_end : (i : ℕ) (now : Contents) → DefinitionsTo i now → length names ≤ i → FillsDefinitions tables names before now
    definitions_end i now done end = record {
      texts = all_end (HasBodyText tables scene_there) names i done.texts end;
      definitions = done.definitions ∙ parted_end unread (defined tables scene_there) i names end;
      sheets = done.sheets;
    }

    module _ (i : ℕ) (now : Contents) (done : DefinitionsTo i now) where
      pub definitions_scene : contents_scene now ≡ contents_scene before
      definitions_scene = ap₂ scene_of_parts done.sheets done.definitions ∙ same
        where
          same : scene_of_parts before.sheets (parted unread (defined tables scene_there) i names) ≡ contents_scene before
          same = λ k. record {
            sheets = map named before.sheets;
            names = (parted_seen unread (defined tables scene_there) spelling_of (λ d. refl) i names ∙ ap (map spelling_of) (sym fresh)) k;
          }

      pub definitions_there : i < length names → i < length now.definitions
      definitions_there lt = let e = ap length done.definitions ∙ parted_length unread (defined tables scene_there) i names in omega (arith, lt, e)

      module _ (next : ℕ) (d : DefinedName) (is_next : i + 1 ≡ next) (below : i < length names) (item : d ≡ get_or names i d) where
        pub definitions_next : (after : Contents) → FillsDefinition tables i d now after → DefinitionsTo next after
        definitions_next after made = record {
          texts = all_next (HasBodyText tables scene_there) names i next d is_next below item done.texts (subst (λ (x : Scene). HasBodyText tables x d) definitions_scene made.text);
          definitions = made.definitions
              ∙ ap₂ (λ (x : Scene) (ds : List Definition). updated_at (λ (y : Definition). record y { body = body_read tables x d }) i ds) definitions_scene done.definitions
              ∙ parted_next unread (defined tables scene_there) (λ (y : Definition). record y { body = body_read tables scene_there d }) i d names below item refl
              ∙ ap (λ n. parted unread (defined tables scene_there) n names) (let e : suc i ≡ next = omega (arith, is_next) in e);
          sheets = made.sheets ∙ done.sheets;
        }

        pub definition_broken : (HasBodyText tables (contents_scene now) d → ⊥) → AllByRecursion (HasBodyText tables (contents_scene before)) names → ⊥
        definition_broken not = not_all (HasBodyText tables scene_there) names i next d is_next below item (λ h. not (subst (λ (x : Scene). HasBodyText tables x d) (sym definitions_scene) h))

-- ---- what the formulas of a workbook can mention, at each step

module _ (w : Workbook) (tables : TableSet) (numbers : List ℕ) where
  pub first_scene : (c : Contents) → c.sheets ≡ map started w.worksheets → c.definitions ≡ map unread w.defined_names → contents_scene c ≡ scene_of w
  first_scene c sheets definitions = ap₂ scene_of_parts sheets definitions ∙ started_scene w

  named_filled : (x : Scene) (ws : List Worksheet) → map named (map (filled tables x numbers) ws) ≡ map named (map started ws)
  named_filled x [] = refl
  named_filled x (s ∷ ws) = ap (λ (rest : List SheetName). named (started s) ∷ rest) (named_filled x ws)

  pub filled_scene : (c after : Contents) → c.sheets ≡ map started w.worksheets → FillsSheets tables numbers w.worksheets c after → contents_scene after ≡ contents_scene c
  filled_scene c after sheets made = ap₂ scene_of_parts made.sheets made.definitions ∙ same
    where
      same : scene_of_parts (map (filled tables (contents_scene c) numbers) w.worksheets) c.definitions ≡ contents_scene c
      same = λ k. record {
        sheets = (named_filled (contents_scene c) w.worksheets ∙ ap (map named) (sym sheets)) k;
        names = map spelling_of c.definitions;
      }

  spelled_defined : (x : Scene) (ds : List DefinedName) → map spelling_of (map (defined tables x) ds) ≡ map spelling_of (map unread ds)
  spelled_defined x [] = refl
  spelled_defined x (d ∷ ds) = ap (λ (rest : List NameSpelling). spelling_of (unread d) ∷ rest) (spelled_defined x ds)

  pub defined_scene : (c after : Contents) → c.definitions ≡ map unread w.defined_names → FillsDefinitions tables w.defined_names c after → contents_scene after ≡ contents_scene c
  defined_scene c after definitions made = ap₂ scene_of_parts made.sheets made.definitions ∙ same
    where
      same : scene_of_parts c.sheets (map (defined tables (contents_scene c)) w.defined_names) ≡ contents_scene c
      same = λ k. record {
        sheets = map named c.sheets;
        names = (spelled_defined (contents_scene c) w.defined_names ∙ ap (map spelling_of) (sym definitions)) k;
      }

  module _ (c0 c1 : Contents) (sheets : c0.sheets ≡ map started w.worksheets) (definitions : c0.definitions ≡ map unread w.defined_names) (first : FillsSheets tables numbers w.worksheets c0 c1) where
    scene0 : contents_scene c0 ≡ scene_of w
    scene0 = first_scene c0 sheets definitions

    scene1 : contents_scene c1 ≡ scene_of w
    scene1 = filled_scene c0 c1 sheets first ∙ scene0

    -- the sheets are those that the records make, and each text of theirs is a formula's own
    pub sheets_are : AreFilled w tables numbers c1.sheets
    sheets_are = first.sheets ∙ ap (λ (x : Scene). map (filled tables x numbers) w.worksheets) scene0

    pub sheets_read : AllByRecursion (HasSheetTexts tables (scene_of w)) w.worksheets
    sheets_read = subst (λ (x : Scene). AllByRecursion (HasSheetTexts tables x) w.worksheets) scene0 first.texts

    pub bodies_asked : AllByRecursion (HasBodyText tables (scene_of w)) w.defined_names → AllByRecursion (HasBodyText tables (contents_scene c1)) w.defined_names
    bodies_asked h = subst (λ (x : Scene). AllByRecursion (HasBodyText tables x) w.defined_names) (sym scene1) h

    module _ (c2 : Contents) (second : FillsDefinitions tables w.defined_names c1 c2) where
      -- and so are the definitions
      pub definitions_are : c2.definitions ≡ map (definition_of w tables) w.defined_names
      definitions_are = second.definitions ∙ ap (λ (x : Scene). map (defined tables x) w.defined_names) scene1

      pub bodies_read : AllByRecursion (HasBodyText tables (scene_of w)) w.defined_names
      bodies_read = subst (λ (x : Scene). AllByRecursion (HasBodyText tables x) w.defined_names) scene1 second.texts

  pub sheets_asked : (c : Contents) → c.sheets ≡ map started w.worksheets → c.definitions ≡ map unread w.defined_names → AllByRecursion (HasSheetTexts tables (scene_of w)) w.worksheets → AllByRecursion (HasSheetTexts tables (contents_scene c)) w.worksheets
  sheets_asked c sheets definitions h = subst (λ (x : Scene). AllByRecursion (HasSheetTexts tables x) w.worksheets) (sym (first_scene c sheets definitions)) h
