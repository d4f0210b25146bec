-- A book whose formulas are kept over a change: its ids, names and keys are as before, and what was valid in the scene
-- before the change is valid in the scene after it.
use Rattle.std.proofs.Common.{◌≡◌, ℕ, ℤ, pos, List, [], ◌∷◌, map, Option, Some, refl, ap, sym, subst, ◌∙◌}
use Rattle.std.specs.List.{AllByRecursion}
use Rattle.std.specs.List.Sorted.{IsStrictlySortedBy}
use Rattle.ic_laws.specs.CoreBook.{Cells, CellPlace, CoreBook, Definition, Sheet, place_cmp, scene_of, spelling_of}
use Rattle.ic_laws.specs.Keeping.{kept, kept_formula, kept_in_body, kept_on_sheet, mapped_cells, same_keys, with_kept}
use Rattle.ic_laws.specs.Notations.{Notations, english_function}
use Rattle.ic_laws.specs.Tree.{Bound}
use Rattle.ic_laws.specs.ValidCore.{IsKept, IsKeptCell, IsKeptFormula, IsValidDefinition, IsValidSheet}
use Rattle.ic_laws.specs.declared.scene.NameSpelling.{NameSpelling}
use Rattle.ic_laws.specs.declared.scene.Scene.{Scene}
use Rattle.ic_laws.specs.declared.scene.SheetName.{SheetName}
use Rattle.ic_laws.specs.declared.tree.Formula.{Formula}
use Rattle.ic_laws.specs.declared.tree.Formula.TheVariants as formulas

-- keeping a kept tree gives a kept tree of the scene after
abbrev pub KeepsTrees : Notations → Scene → Scene → Type 0
KeepsTrees n before after =
    (scope : Option ℕ) (row column : ℤ) (t : Bound) → IsKept n before scope row column t → IsKept n after scope row column (kept (english_function n) before after same_keys scope t)

-- a sheet's id and name, as formulas mention it
abbrev pub mentioned : Sheet → SheetName
mentioned sheet = record { id = sheet.id; name = sheet.name }

-- the places of cells stay when their formulas are replaced
pub same_places : (f : Formula → Formula) (cells : Cells) → map (λ (cell : CellPlace × Formula). cell.0) (mapped_cells f cells) ≡ map (λ (cell : CellPlace × Formula). cell.0) cells
same_places f [] = refl
same_places f (cell ∷ cells) = ap (λ r. cell.0 ∷ r) (same_places f cells)

module _ (n : Notations) (before after : Scene) where
  abbrev pub on_sheet : Sheet → Sheet
  on_sheet sheet = kept_on_sheet n before after same_keys sheet

  abbrev pub in_body : Definition → Definition
  in_body definition = kept_in_body n before after same_keys definition

  -- what is asked of a sheet but for its cells is the same
  pub same_sheets : {A : Type 0} (f : Sheet → A) → ((s : Sheet) → f (on_sheet s) ≡ f s) → (sheets : List Sheet) → map f (map on_sheet sheets) ≡ map f sheets
  same_sheets f same [] = refl
  same_sheets f same (s ∷ sheets) = ap (λ x. x ∷ map f (map on_sheet sheets)) (same s) ∙ ap (λ r. f s ∷ r) (same_sheets f same sheets)

  pub same_definitions : {A : Type 0} (f : Definition → A) → ((d : Definition) → f (in_body d) ≡ f d) → (definitions : List Definition) → map f (map in_body definitions) ≡ map f definitions
  same_definitions f same [] = refl
  same_definitions f same (d ∷ definitions) = ap (λ x. x ∷ map f (map in_body definitions)) (same d) ∙ ap (λ r. f d ∷ r) (same_definitions f same definitions)

  module _ (keeps : KeepsTrees n before after) where
    pub valid_formula : (scope : Option ℕ) (row column : ℤ) (formula : Formula) → IsKeptFormula n before scope row column formula → IsKeptFormula n after scope row column (kept_formula (english_function n) before after same_keys scope formula)
    valid_formula scope row column (formulas.Tree t) h = keeps scope row column t h
    valid_formula scope row column (formulas.Raw text) h = tt

    valid_cells : (id : ℕ) (cells : Cells) → AllByRecursion (IsKeptCell n before id) cells → AllByRecursion (IsKeptCell n after id) (mapped_cells (kept_formula (english_function n) before after same_keys (Some id)) cells)
    valid_cells id [] h = tt
    valid_cells id (cell ∷ cells) h =
        (record { inside = h.0.inside; formula = valid_formula (Some id) cell.0.0 cell.0.1 cell.1 h.0.formula }, valid_cells id cells h.1)

    pub valid_sheet : (sheet : Sheet) → IsValidSheet n before sheet → IsValidSheet n after (on_sheet sheet)
    valid_sheet sheet h = record {
      id = h.id;
      name = h.name;
      ordered = subst (IsStrictlySortedBy place_cmp) (sym (same_places (kept_formula (english_function n) before after same_keys (Some sheet.id)) sheet.cells)) h.ordered;
      cells = valid_cells sheet.id sheet.cells h.cells;
    }

    pub valid_sheets : (sheets : List Sheet) → AllByRecursion (IsValidSheet n before) sheets → AllByRecursion (IsValidSheet n after) (map on_sheet sheets)
    valid_sheets [] h = tt
    valid_sheets (s ∷ sheets) h = (valid_sheet s h.0, valid_sheets sheets h.1)

    pub valid_definition : (definition : Definition) → IsValidDefinition n before definition → IsValidDefinition n after (in_body definition)
    valid_definition definition h = record {
      name = h.name;
      scope = h.scope;
      body = valid_formula definition.scope (pos 1) (pos 1) definition.body h.body;
    }

    pub valid_definitions : (definitions : List Definition) → AllByRecursion (IsValidDefinition n before) definitions → AllByRecursion (IsValidDefinition n after) (map in_body definitions)
    valid_definitions [] h = tt
    valid_definitions (d ∷ definitions) h = (valid_definition d h.0, valid_definitions definitions h.1)

-- a book whose formulas are kept can mention what it could mention before
pub same_scene : (n : Notations) (before after : Scene) (book : CoreBook) → scene_of (with_kept n before after same_keys book) ≡ scene_of book
same_scene n before after book =
    ap (λ (x : List SheetName). record { sheets = x; names = map spelling_of (map (in_body n before after) book.definitions) }) (same_sheets n before after mentioned (λ s. refl) book.sheets)
    ∙ ap (λ (x : List NameSpelling). record { sheets = map mentioned book.sheets; names = x }) (same_definitions n before after spelling_of (λ d. refl) book.definitions)
