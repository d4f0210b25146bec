-- An update of which no formula and no body has a word that it captures has no sites.
use Rattle.std.proofs.Common.{◌≡◌, ℕ, zero, suc, List, [], ◌∷◌, ◌++◌, map, Bool, true, false, cond, ◌&&◌, Option, Some, None, refl, ap, ap₂, ◌∙◌}
use Rattle.std.proofs.lemmas.Bool.{or_parts}
use Rattle.std.specs.FinMap as finite
use Rattle.std.specs.List.{AllByRecursion, list_any, zip}
use Rattle.std.specs.Prelude.{flat_map}
use Rattle.ic_laws.specs.CoreBook.{CellPlace, Definition}
use Rattle.ic_laws.specs.Keeping.{changed_key}
use Rattle.ic_laws.specs.Scene.{same_key}
use Rattle.ic_laws.specs.declared.tree.Formula.{Formula}
use Rattle.ic_laws.specs.declared.tree.NameKey.{NameKey}
use Rattle.ic_keep.specs.declared.change.KeyChange.{KeyChange}
use Rattle.ic_definitions.specs.Named.{key_in}
use Rattle.ic_definitions.specs.Remade.{LeavesBody, remade_body}
use Rattle.ic_definitions.specs.Tested.{passes_body}
use Rattle.ic_machine.specs.Book as machine
use Rattle.ic_machine.specs.Book.{Entry}
use Rattle.ic_machine.specs.Capture.{captured_at, captured_body, captured_cells, captured_formula}
use Rattle.ic_machine.specs.Content.{formula_in, formula_index}
use Rattle.ic_machine.specs.Refusal.{CellSite, DefinitionSite, Site}
use Rattle.ic_pool.specs.Remade.{LeavesUntouched, Remade}
use Rattle.ic_sheets.specs.Remade.{remade_pool}
use Rattle.ic_sheets.specs.Rewriting.{sheets_of}
use Rattle.ic_sheets.specs.Sheet.{sheet_of}
use Rattle.ic_sheets.specs.Tested.{passes_in}
use Rattle.ic_sheets.specs.declared.sheet.Sheet.{Sheet as HeldSheet}
use Rattle.ic_parts.specs.Book.{whole_sheet}
use Rattle.ic_changes.specs.Updated.{captures_by}

-- cells of formulas of which none is captured
module _ (keys : NameKey → NameKey) (before after : machine.Sheet) (clear : (index : ℕ) → captured_formula keys (formula_in before.pool index) (formula_in after.pool index) ≡ false) where
  no_cell : (place : CellPlace) (o : Option ℕ) → captured_at keys before after place o ≡ []
  no_cell place None = refl
  no_cell place (Some index) = ap (λ b. let all : List Site = cond b (CellSite before.id place ∷ []) [] in all) (clear index)

  no_cells : (es : List Entry) → flat_map (λ (entry : Entry). captured_at keys before after entry.0 (formula_index entry.1)) es ≡ []
  no_cells [] = refl
  no_cells (e ∷ es) = ap₂ (λ (a b : List Site). a ++ b) (no_cell e.0 (formula_index e.1)) (no_cells es)

module _ (rule : Remade) (change : KeyChange) (spared : (scope : Option ℕ) (formula : Formula) → rule.touches scope formula ≡ false → captured_formula (changed_key change.old change.new) formula formula ≡ false) where
  abbrev keys : NameKey → NameKey
  keys = changed_key change.old change.new

  -- what a formula becomes
  formula_clear : (scope : Option ℕ) (formula : Formula) → LeavesUntouched rule scope formula → captures_by rule change scope formula ≡ false → captured_formula keys formula (rule.becomes scope formula) ≡ false
  formula_clear scope formula leaves none = step (rule.touches scope formula) refl none
    where
      step : (b : Bool) → rule.touches scope formula ≡ b → (b && captured_formula keys formula (rule.becomes scope formula)) ≡ false → captured_formula keys formula (rule.becomes scope formula) ≡ false
      step true is none = none
      step false is none = ap (captured_formula keys formula) (leaves is) ∙ spared scope formula is

  -- what the formulas of a pool become
  pool_clear : (scope : Option ℕ) (pool : List Formula) → AllByRecursion (LeavesUntouched rule scope) pool → list_any (captures_by rule change scope) pool ≡ false → (index : ℕ) → captured_formula keys (formula_in pool index) (formula_in (map (rule.becomes scope) pool) index) ≡ false
  pool_clear scope [] leaves none index = refl
  pool_clear scope (x ∷ xs) leaves none zero = formula_clear scope x leaves.0 (or_parts (captures_by rule change scope x) (list_any (captures_by rule change scope) xs) none).0
  pool_clear scope (x ∷ xs) leaves none (suc index) = pool_clear scope xs leaves.1 (or_parts (captures_by rule change scope x) (list_any (captures_by rule change scope) xs) none).1 index

module _ (strings : List (List ℕ)) (rule : Remade) (change : KeyChange) (spared : (scope : Option ℕ) (formula : Formula) → rule.touches scope formula ≡ false → captured_formula (changed_key change.old change.new) formula formula ≡ false) where
  pub sheets_clear : (ss : List HeldSheet) → AllByRecursion (λ (s : HeldSheet). AllByRecursion (LeavesUntouched rule (Some s.id)) s.pool.formulas) ss → list_any (passes_in (captures_by rule change)) ss ≡ false
      → flat_map (captured_cells (changed_key change.old change.new)) (zip (map (whole_sheet strings) (sheets_of ss)) (map (whole_sheet strings) (map (remade_pool rule) (sheets_of ss)))) ≡ []
  sheets_clear [] leaves none = refl
  sheets_clear (s ∷ ss) leaves none =
      let parts = or_parts (passes_in (captures_by rule change) s) (list_any (passes_in (captures_by rule change)) ss) none in
      let before = whole_sheet strings (sheet_of s) in
      let after = whole_sheet strings (remade_pool rule (sheet_of s)) in
      ap₂ (λ (a b : List Site). a ++ b) (no_cells (changed_key change.old change.new) before after (pool_clear rule change spared (Some s.id) s.pool.formulas leaves.0 parts.0) (finite.entries before.grid.contents)) (sheets_clear ss leaves.1 parts.1)

  pub bodies_clear : (updated : NameKey) (ds : List Definition) → AllByRecursion (LeavesBody rule) ds → list_any (passes_body (captures_by rule change)) ds ≡ false → flat_map (captured_body (changed_key change.old change.new) updated) (zip ds (map (remade_body rule) ds)) ≡ []
  bodies_clear updated [] leaves none = refl
  bodies_clear updated (d ∷ ds) leaves none =
      let parts = or_parts (passes_body (captures_by rule change) d) (list_any (passes_body (captures_by rule change)) ds) none in
      ap₂ (λ (a b : List Site). a ++ b) (step (same_key updated (key_in d)) (formula_clear rule change spared d.scope d.body leaves.0 parts.0)) (bodies_clear updated ds leaves.1 parts.1)
    where
      caught : Bool
      caught = captured_formula (changed_key change.old change.new) d.body (rule.becomes d.scope d.body)

      step : (a : Bool) → caught ≡ false → cond a [] (cond caught (DefinitionSite (key_in d) ∷ []) []) ≡ []
      step true e = refl
      step false e = ap (λ b. let all : List Site = cond b (DefinitionSite (key_in d) ∷ []) [] in all) e
