-- What always holds of a book holds of it after a change of its sheets or its definitions over which all formulas are kept,
-- where its core is valid then.
use Rattle.std.proofs.Common.{◌≡◌, ℕ, ℤ, ◌<◌, ◌≤◌, List, [], ◌∷◌, map, length, true, Option, Some, None, refl, sym, ap, ap₂, subst, ◌∙◌}
use Rattle.std.proofs.lemmas.List.{length-map}
use Rattle.std.specs.List.{AllByRecursion, IsDistinct}
use Rattle.std.specs.Prelude.{nat_eq}
use Rattle.ic_laws.proofs.core.Named.{IsNamed, book_named}
use Rattle.ic_laws.proofs.kept.Kept.{kept_is_kept}
use Rattle.ic_laws.proofs.kept.Scenes.{FindsAlike, kept_where_alike}
use Rattle.ic_laws.specs.CoreBook as core_book
use Rattle.ic_laws.specs.CoreBook.{Definition, IsId, last_id, spelling_of}
use Rattle.ic_laws.specs.Keeping.{KeyChange, kept_formula, kept_in_body}
use Rattle.ic_laws.specs.Name.{agrees, is_identifier, is_sheet_name}
use Rattle.ic_laws.specs.Notations.{AreNotations, Notations, english_function}
use Rattle.ic_laws.specs.ValidCore.{IsKeptBody, IsKeptFormula, IsPlaceInside, IsPooled, IsScope, IsValidCore, IsValidDefinition, IsValidSheet}
use Rattle.ic_laws.specs.declared.scene.NameSpelling.{NameSpelling}
use Rattle.ic_laws.specs.declared.scene.Scene.{Scene}
use Rattle.ic_laws.specs.declared.scene.SheetName.{SheetName}
use Rattle.ic_laws.specs.declared.tree.Formula.{Formula}
use Rattle.ic_laws.specs.declared.tree.Formula.TheVariants as formulas
use Rattle.ic_tree.proofs.NotationLaws.{notations_are}
use Rattle.ic_grid.specs.Block.{Place}
use Rattle.ic_grid.specs.Conditions.{AreArrays, AreInSheet, AreMerges}
use Rattle.ic_machine.specs.Book.{Book, Sheet, core_of, core_sheet, notations_in, scene_in}
use Rattle.ic_machine.specs.Changed.{with_kept_pool}
use Rattle.ic_machine.specs.Content.{formula_in, formula_index, held}
use Rattle.ic_machine.specs.Valid.{HasAmounts, HasCellFormulas, HasFormula, HasGridStyles, HasLayout, IsKeptPool, IsValidBook}
use Rattle.ic_machine.proofs.as_core.CoreLemmas.{formula_in-map}
use Rattle.ic_machine.proofs.as_core.CoreValid.{core_valid}
use Rattle.ic_machine.proofs.valid.ValidLemmas.{HoldsOf, all_of}
use Rattle.ic_laws.proofs.General.{map-map as map_twice}

-- a formula that is kept over a change, and all that is held with it ----

module _ (n : Notations) (are : AreNotations n) (before after : Scene) (named : IsNamed before) (named_after : IsNamed after) (change : KeyChange) where
  abbrev keep : Option ℕ → Formula → Formula
  keep scope formula = kept_formula (english_function n) before after change scope formula

  abbrev keep_sheet : Sheet → Sheet
  keep_sheet s = with_kept_pool n before after change s

  pooled_kept : (scope : Option ℕ) (formula : Formula) → IsPooled n before scope formula → IsPooled n after scope (keep scope formula)
  pooled_kept scope (formulas.Tree t) h = kept_is_kept n are before after named named_after change scope (λ place. Unit {0}) t h
  pooled_kept scope (formulas.Raw text) h = tt

  pool_kept : (scope : Option ℕ) (pool : List Formula) → AllByRecursion (IsPooled n before scope) pool → AllByRecursion (IsPooled n after scope) (map (keep scope) pool)
  pool_kept scope [] h = tt
  pool_kept scope (x ∷ pool) h = (pooled_kept scope x h.0, pool_kept scope pool h.1)

  pub formula_kept : (scope : Option ℕ) (row column : ℤ) (formula : Formula) → IsKeptFormula n before scope row column formula → IsKeptFormula n after scope row column (keep scope formula)
  formula_kept scope row column (formulas.Tree t) h = kept_is_kept n are before after named named_after change scope (IsPlaceInside row column) t h
  formula_kept scope row column (formulas.Raw text) h = tt

  held_kept : (s : Sheet) (place : Place) (o : Option ℕ) → HasFormula n before s place o → HasFormula n after (keep_sheet s) place o
  held_kept s place None h = tt
  held_kept s place (Some index) h = (
    subst (λ m. index < m) (sym (length-map s.pool (keep (Some s.id)))) h.0,
    subst (IsKeptFormula n after (Some s.id) place.0 place.1) (sym (formula_in-map (keep (Some s.id)) refl s.pool index))
        (formula_kept (Some s.id) place.0 place.1 (formula_in s.pool index) h.1),
  )

  holds_kept : (count : ℕ) (s : Sheet) → HoldsOf n before count s → HoldsOf n after count (keep_sheet s)
  holds_kept count s h = record {
    pool = pool_kept (Some s.id) s.pool h.pool;
    inside = h.inside;
    formulas = λ place content e. held_kept s place (formula_index content) (h.formulas place content e);
    styles = h.styles;
    arrays = h.arrays;
    merges = h.merges;
    layout = record { frozen = h.layout.frozen; lines = h.layout.lines };
    amounts = h.amounts;
  }

  pub all_kept : (count : ℕ) (sheets : List Sheet) → AllByRecursion (HoldsOf n before count) sheets → AllByRecursion (HoldsOf n after count) (map keep_sheet sheets)
  all_kept count [] h = tt
  all_kept count (s ∷ sheets) h = (holds_kept count s h.0, all_kept count sheets h.1)

-- the same sheets in a scene that finds and spells alike
module _ (n : Notations) (before after : Scene) (alike : FindsAlike before after) where
  pooled_alike : (scope : Option ℕ) (formula : Formula) → IsPooled n before scope formula → IsPooled n after scope formula
  pooled_alike scope (formulas.Tree t) h = kept_where_alike n before after alike scope (λ place. Unit {0}) t h
  pooled_alike scope (formulas.Raw text) h = tt

  formula_alike : (scope : Option ℕ) (row column : ℤ) (formula : Formula) → IsKeptFormula n before scope row column formula → IsKeptFormula n after scope row column formula
  formula_alike scope row column (formulas.Tree t) h = kept_where_alike n before after alike scope (IsPlaceInside row column) t h
  formula_alike scope row column (formulas.Raw text) h = tt

  held_alike : (s : Sheet) (place : Place) (o : Option ℕ) → HasFormula n before s place o → HasFormula n after s place o
  held_alike s place None h = tt
  held_alike s place (Some index) h = (h.0, formula_alike (Some s.id) place.0 place.1 (formula_in s.pool index) h.1)

  pub holds_alike : (count : ℕ) (s : Sheet) → HoldsOf n before count s → HoldsOf n after count s
  holds_alike count s h = record {
    pool = all_of (IsPooled n before (Some s.id)) (IsPooled n after (Some s.id)) (pooled_alike (Some s.id)) s.pool h.pool;
    inside = h.inside;
    formulas = λ place content e. held_alike s place (formula_index content) (h.formulas place content e);
    styles = h.styles;
    arrays = h.arrays;
    merges = h.merges;
    layout = h.layout;
    amounts = h.amounts;
  }

-- a valid book's sheets, each with all that holds of it ----

each_holds : (n : Notations) (scene : Scene) (count : ℕ) (sheets : List Sheet) → AllByRecursion (IsKeptPool n scene) sheets → AllByRecursion (λ (s : Sheet). AreInSheet held s.grid.contents) sheets
    → AllByRecursion (HasCellFormulas n scene) sheets → AllByRecursion (λ (s : Sheet). HasGridStyles count s.grid) sheets → AllByRecursion (λ (s : Sheet). AreArrays held s.grid.contents) sheets
    → AllByRecursion (λ (s : Sheet). AreMerges held s.grid.contents s.grid.merges) sheets → AllByRecursion HasLayout sheets → AllByRecursion HasAmounts sheets → AllByRecursion (HoldsOf n scene count) sheets
each_holds n scene count [] pools inside formulas styles arrays merges layout amounts = tt
each_holds n scene count (s ∷ sheets) pools inside formulas styles arrays merges layout amounts = (
  record { pool = pools.0; inside = inside.0; formulas = formulas.0; styles = styles.0; arrays = arrays.0; merges = merges.0; layout = layout.0; amounts = amounts.0 },
  each_holds n scene count sheets pools.1 inside.1 formulas.1 styles.1 arrays.1 merges.1 layout.1 amounts.1,
)

pub all_hold : (b : Book) → IsValidBook b → AllByRecursion (HoldsOf (notations_in b) (scene_in b) (length b.styles)) b.sheets
all_hold b valid =
    each_holds (notations_in b) (scene_in b) (length b.styles) b.sheets valid.kept.pools valid.inside valid.formulas valid.styles.numbers valid.arrays valid.merges valid.layout valid.amounts

each_core : (n : Notations) (scene : Scene) (P : Sheet → Type 0) → ((s : Sheet) → IsValidSheet n scene (core_sheet s) → P s) → (sheets : List Sheet) → AllByRecursion (IsValidSheet n scene) (map core_sheet sheets)
    → AllByRecursion P sheets
each_core n scene P part [] h = tt
each_core n scene P part (s ∷ sheets) h = (part s h.0, each_core n scene P part sheets h.1)

-- a book with other sheets and other definitions ----

abbrev pub with_parts : Book → List Sheet → List Definition → Book
with_parts b sheets definitions = record b { sheets = sheets; definitions = definitions }

-- what formulas see of a sheet
abbrev pub seen : Sheet → SheetName
seen s = record { id = s.id; name = s.name }

abbrev scene_by : List SheetName → List NameSpelling → Scene
scene_by sheets names = record { sheets = sheets; names = names }

module _ (b : Book) where
  scene_seen : (sheets : List Sheet) (definitions : List Definition) → scene_in (with_parts b sheets definitions) ≡ scene_by (map seen sheets) (map spelling_of definitions)
  scene_seen sheets definitions =
      ap (λ (ss : List SheetName). scene_by ss (map spelling_of definitions)) (sym (map_twice core_sheet (λ (s : core_book.Sheet). let m : SheetName = record { id = s.id; name = s.name } in m) sheets))

  pub scene_same : (xs ys : List Sheet) (ds es : List Definition) → map seen xs ≡ map seen ys → map spelling_of ds ≡ map spelling_of es → scene_in (with_parts b xs ds) ≡ scene_in (with_parts b ys es)
  scene_same xs ys ds es p q = scene_seen xs ds ∙ ap₂ scene_by p q ∙ sym (scene_seen ys es)

module _ (b : Book) (valid : IsValidBook b) where
  -- it is valid where its core is, and its sheets hold what they must
  pub rebuilt : (sheets : List Sheet) (definitions : List Definition) → IsValidCore (notations_in b) (core_of (with_parts b sheets definitions))
      → AllByRecursion (HoldsOf (notations_in b) (scene_in (with_parts b sheets definitions)) (length b.styles)) sheets → IsValidBook (with_parts b sheets definitions)
  rebuilt sheets definitions core holds =
      let n : Notations = notations_in b in
      let scene : Scene = scene_in (with_parts b sheets definitions) in
      let Holds : Sheet → Type 0 = HoldsOf n scene (length b.styles) in
      record {
        sheets = record {
          some = subst (λ m. 0 < m) (length-map sheets core_sheet) core.some_sheet;
          few = subst (λ m. m ≤ last_id) (length-map sheets core_sheet) core.few;
        };
        sheet_names = record {
          names = each_core n scene (λ (s : Sheet). is_sheet_name s.name ≡ true) (λ s h. h.name) sheets core.sheets;
          differ = subst (IsDistinct agrees) (sym (map_twice core_sheet (λ (s : core_book.Sheet). s.name) sheets)) core.names_differ;
        };
        sheet_ids = record {
          ids = each_core n scene (λ (s : Sheet). IsId s.id) (λ s h. h.id) sheets core.sheets;
          differ = subst (IsDistinct nat_eq) (sym (map_twice core_sheet (λ (s : core_book.Sheet). s.id) sheets)) core.ids_differ;
        };
        definitions = record {
          names = all_of (IsValidDefinition n scene) (λ (d : Definition). is_identifier d.name ≡ true) (λ d h. h.name) definitions core.definitions;
          scopes = all_of (IsValidDefinition n scene) (λ (d : Definition). IsScope d.scope) (λ d h. h.scope) definitions core.definitions;
          differ = core.keys_differ;
        };
        kept = record {
          pools = all_of Holds (IsKeptPool n scene) (λ s h. h.pool) sheets holds;
          bodies = all_of (IsValidDefinition n scene) (IsKeptBody n scene) (λ d h. h.body) definitions core.definitions;
        };
        inside = all_of Holds (λ (s : Sheet). AreInSheet held s.grid.contents) (λ s h. h.inside) sheets holds;
        formulas = all_of Holds (HasCellFormulas n scene) (λ s h. h.formulas) sheets holds;
        styles = record {
          styles = valid.styles.styles;
          numbers = all_of Holds (λ (s : Sheet). HasGridStyles (length b.styles) s.grid) (λ s h. h.styles) sheets holds;
        };
        arrays = all_of Holds (λ (s : Sheet). AreArrays held s.grid.contents) (λ s h. h.arrays) sheets holds;
        merges = all_of Holds (λ (s : Sheet). AreMerges held s.grid.contents s.grid.merges) (λ s h. h.merges) sheets holds;
        layout = all_of Holds HasLayout (λ s h. h.layout) sheets holds;
        amounts = all_of Holds HasAmounts (λ s h. h.amounts) sheets holds;
        locale = core.locale;
        language = core.language;
        zone = valid.zone;
        tables = valid.tables;
      }

  -- with all formulas kept for a scene
  abbrev pub kept_sheets : Scene → KeyChange → List Sheet
  kept_sheets later keys = map (with_kept_pool (notations_in b) (scene_in b) later keys) b.sheets

  abbrev pub kept_definitions : Scene → KeyChange → List Definition
  kept_definitions later keys = map (kept_in_body (notations_in b) (scene_in b) later keys) b.definitions

  pub seen_kept : (later : Scene) (keys : KeyChange) → map seen (kept_sheets later keys) ≡ map seen b.sheets
  seen_kept later keys = sym (map_twice (with_kept_pool (notations_in b) (scene_in b) later keys) seen b.sheets)

  pub spelled_kept : (later : Scene) (keys : KeyChange) → map spelling_of (kept_definitions later keys) ≡ map spelling_of b.definitions
  spelled_kept later keys = sym (map_twice (kept_in_body (notations_in b) (scene_in b) later keys) spelling_of b.definitions)

  -- a change of sheets that hold what they must gives such sheets
  abbrev Puts : Scene → List Sheet → List Sheet → Type 0
  Puts later kept sheets = AllByRecursion (HoldsOf (notations_in b) later (length b.styles)) kept → AllByRecursion (HoldsOf (notations_in b) later (length b.styles)) sheets

  pub changed_stays : (later : Scene) (keys : KeyChange) (sheets : List Sheet) (definitions : List Definition) → scene_in (with_parts b sheets definitions) ≡ later → Puts later (kept_sheets later keys) sheets
      → IsValidCore (notations_in b) (core_of (with_parts b sheets definitions)) → IsValidBook (with_parts b sheets definitions)
  changed_stays later keys sheets definitions same puts core =
      rebuilt sheets definitions core
      (subst (λ (scene : Scene). AllByRecursion (HoldsOf (notations_in b) scene (length b.styles)) sheets) (sym same)
      (puts
      (all_kept (notations_in b) (notations_are b.tables valid.tables) (scene_in b) later (book_named (notations_in b) (core_of b) (core_valid b valid))
      (subst IsNamed same (book_named (notations_in b) (core_of (with_parts b sheets definitions)) core)) keys (length b.styles) b.sheets (all_hold b valid))))
