-- Where an update of a definition would capture a word.
use Rattle.std.specs.Prelude.{◌≡◌, ℕ, List, [], ◌∷◌, ◌++◌, flat_map, Bool, false, ◌&&◌, not, Option, Some, None, find, nat_eq, if◌then◌else◌}
use Rattle.std.specs.FinMap as finite
use Rattle.std.specs.List.{AllByRecursion, list_any, slice_get}
use Rattle.std.specs.Option.{IfSome, option_map_or}
use Rattle.ic_laws.specs.CoreBook.{CellPlace, Definition}
use Rattle.ic_laws.specs.Keeping.{KeyChange, changed_key, kept_formula}
use Rattle.ic_laws.specs.Scene.{same_key}
use Rattle.ic_laws.specs.declared.scene.Scene.{Scene}
use Rattle.ic_laws.specs.declared.tree.Formula.{Formula}
use Rattle.ic_laws.specs.declared.tree.NameKey.{NameKey}
use Rattle.ic_cells.specs.Cell.{cell_formula_index}
use Rattle.ic_cells.specs.declared.cell.Cell.{Cell}
use Rattle.ic_definitions.specs.Named.{key_in}
use Rattle.ic_definitions.specs.Remade.{LeavesBody, touched_bodies}
use Rattle.ic_definitions.specs.declared.bodies.NewBody.{NewBody}
use Rattle.ic_keep.specs.Alike.{AreAlikeFormulas}
use Rattle.ic_keep.specs.Touched.{is_touched}
use Rattle.ic_machine.specs.Capture.{captured_formula}
use Rattle.ic_machine.specs.Refusal as machine
use Rattle.ic_machine.specs.Refusal.{CellSite, DefinitionSite}
use Rattle.ic_pool.specs.Remade.{LeavesUntouched, Remade}
use Rattle.ic_pool.specs.Rewrites.{RewritesState}
use Rattle.ic_pool.specs.declared.pool.rewrites.Replacement.{Replacement}
use Rattle.ic_sheets.specs.Remade.{AreRemade, rewrites_of}
use Rattle.ic_sheets.specs.declared.sheet.Sheet.{Sheet}
use Rattle.ic_parts.specs.declared.sites.MentionSite.{MentionSite}
use Rattle.ic_parts.specs.declared.sites.MentionSite.TheVariants as sites

-- a site as the machine has it
abbrev pub site_of : MentionSite → machine.Site
site_of (sites.Cell sheet_id row column) = CellSite sheet_id (row, column)
site_of (sites.Definition key) = DefinitionSite key

-- the cell at a place of the sheet with an id, if the index of its formula passes a test
abbrev pub site_if : ℕ → (ℕ → Bool) → CellPlace → Option ℕ → List MentionSite
site_if id test place None = []
site_if id test place (Some index) = if test index then sites.Cell id place.0 place.1 ∷ [] else []

-- those of these cells
abbrev pub sites_in : ℕ → (ℕ → Bool) → List (CellPlace × Cell) → List MentionSite
sites_in id test entries = flat_map (λ (e : CellPlace × Cell). site_if id test e.0 (cell_formula_index e.1)) entries

-- What was prepared keeps the shape of each formula that it makes anew: in a pool, and in the bodies of definitions.
abbrev pub IsAlikeIn : List Formula → Replacement → Type 0
IsAlikeIn pool new = IfSome (slice_get pool new.at) (λ formula. AreAlikeFormulas formula new.formula)

abbrev pub IsAlikeBody : List Definition → NewBody → Type 0
IsAlikeBody definitions new = IfSome (slice_get definitions new.at) (λ definition. AreAlikeFormulas definition.body new.body)

abbrev pub AreAlikePools : List (ℕ × RewritesState) → List Sheet → Type 0
AreAlikePools prepared sheets = AllByRecursion (λ s. AllByRecursion (IsAlikeIn s.pool.formulas) (rewrites_of prepared s.id).changes) sheets

module _ (keys : KeyChange) where
  -- what a formula of a pool becomes captures a word of it
  abbrev pub captures : List Formula → Replacement → Bool
  captures pool new = option_map_or (λ formula. captured_formula keys formula new.formula) (slice_get pool new.at) false

  -- so does what the formula at an index becomes
  abbrev pub captures_at : List Formula → List Replacement → ℕ → Bool
  captures_at pool changes index = list_any (λ (new : Replacement). nat_eq index new.at && captures pool new) changes

  -- the cells of a sheet whose formulas do, by rows and columns
  abbrev pub sheet_sites : RewritesState → Sheet → List MentionSite
  sheet_sites rewrites sheet = sites_in sheet.id (captures_at sheet.pool.formulas rewrites.changes) (finite.entries sheet.grid.cells)

  -- those of all sheets, in their order, each with what was prepared for it
  abbrev pub sites_of_sheets : List (ℕ × RewritesState) → List Sheet → List MentionSite
  sites_of_sheets prepared sheets = flat_map (λ s. sheet_sites (rewrites_of prepared s.id) s) sheets

  -- those of the sheet with this id, where there is one
  abbrev pub prepared_sites : List Sheet → ℕ × RewritesState → List MentionSite
  prepared_sites sheets prepared = option_map_or (sheet_sites prepared.1) (find (λ s. nat_eq s.id prepared.0) sheets) []

  -- a definition other than the updated one, if what its body becomes captures a word of it
  abbrev pub body_site : NameKey → Formula → Definition → List MentionSite
  body_site updated body definition =
      if not (same_key updated (key_in definition)) && captured_formula keys definition.body body then sites.Definition (key_in definition) ∷ [] else []

  -- the one that a body was prepared for
  abbrev pub body_sites : NameKey → List Definition → NewBody → List MentionSite
  body_sites updated definitions new = option_map_or (body_site updated new.body) (slice_get definitions new.at) []

  -- those of all definitions, in the order of what was prepared for them
  abbrev pub sites_of_bodies : NameKey → List Definition → List NewBody → List MentionSite
  sites_of_bodies updated definitions bodies = flat_map (body_sites updated definitions) bodies

  -- all of them
  abbrev pub listed_sites : NameKey → List Sheet → List Definition → List (ℕ × RewritesState) → List NewBody → List MentionSite
  listed_sites updated sheets definitions formulas bodies = sites_of_sheets formulas sheets ++ sites_of_bodies updated definitions bodies

-- An update was prepared by a rule, for the formulas of all sheets and the bodies of all definitions: what the rule doesn't
-- touch stays and isn't captured, and what it makes anew keeps its shape.
pub record IsUpdate (made : Remade) (keys : KeyChange) (sheets : List Sheet) (definitions : List Definition) (formulas : List (ℕ × RewritesState)) (bodies : List NewBody) : Type 0 where
  pub pools : AreRemade made formulas sheets
  pub bodies_listed : bodies ≡ touched_bodies made 0 definitions
  pub formulas_stay : AllByRecursion (λ (s : Sheet). AllByRecursion (LeavesUntouched made (Some s.id)) s.pool.formulas) sheets
  pub bodies_stay : AllByRecursion (LeavesBody made) definitions
  pub spared : (scope : Option ℕ) (formula : Formula) → made.touches scope formula ≡ false → captured_formula keys formula formula ≡ false
  pub alike : (scope : Option ℕ) (formula : Formula) → AreAlikeFormulas formula (made.becomes scope formula)

-- an update of a definition makes each formula anew that it touches: what is kept of it over the update
abbrev pub kept_where_touched : (List ℕ → Option ℕ) → Scene → Scene → NameKey → NameKey → Remade
kept_where_touched english before after old new = record {
  touches = λ scope formula. is_touched old new formula;
  becomes = kept_formula english before after (changed_key old new);
}
