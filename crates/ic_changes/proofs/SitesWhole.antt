-- What an update would capture of a book is what the machine says of the whole book: cells by sheets, rows and columns, then
-- definitions.
use Rattle.std.proofs.Common.{◌≡◌, ℕ, List, [], ◌∷◌, ◌++◌, map, Bool, true, false, cond, Option, Some, None, refl, sym, ap, ap₂, subst, ◌∙◌}
use Rattle.std.proofs.lemmas.List.{map-append}
use Rattle.std.specs.FinMap as finite
use Rattle.std.specs.List.{AllByRecursion, slice_get, zip}
use Rattle.std.specs.Prelude.{flat_map}
use Rattle.ic_laws.specs.CoreBook.{CellPlace, Definition}
use Rattle.ic_laws.specs.CoreStep.{updated_at}
use Rattle.ic_laws.specs.Keeping.{KeyChange}
use Rattle.ic_laws.specs.Scene.{same_key}
use Rattle.ic_laws.specs.declared.tree.Formula.{Formula}
use Rattle.ic_laws.specs.declared.tree.NameKey.{NameKey}
use Rattle.ic_cells.specs.Cell.{cell_formula_index}
use Rattle.ic_cells.specs.declared.cell.Cell.{Cell}
use Rattle.ic_definitions.specs.Named.{key_in}
use Rattle.ic_definitions.specs.Remade.{remade_body}
use Rattle.ic_definitions.specs.declared.bodies.NewBody.{NewBody}
use Rattle.ic_machine.proofs.contents.AlikeGrid.{entries-seen}
use Rattle.ic_machine.specs.Book as machine
use Rattle.ic_machine.specs.Book.{Entry}
use Rattle.ic_machine.specs.Capture.{captured_at, captured_body, captured_cells, captured_formula, captured_sites}
use Rattle.ic_machine.specs.Content.{content_of, formula_in, formula_index}
use Rattle.ic_machine.specs.Refusal.{CellSite, Site}
use Rattle.ic_pool.specs.Remade.{LeavesUntouched, Remade}
use Rattle.ic_pool.specs.Rewrites.{RewritesState}
use Rattle.ic_sheets.specs.Remade.{IsRemade, remade_pool, rewrites_of}
use Rattle.ic_sheets.specs.Rewriting.{sheets_of}
use Rattle.ic_sheets.specs.Sheet.{sheet_of}
use Rattle.ic_sheets.specs.declared.sheet.Sheet.{Sheet as HeldSheet}
use Rattle.ic_changes.proofs.SiteTouched.{alike_bodies_from, alike_from, bodies_from, captures_listed, updated_apart}
use Rattle.ic_parts.proofs.WholeLemmas.{index_seen}
use Rattle.ic_parts.specs.Book.{Book, whole_of, whole_sheet}
use Rattle.ic_parts.specs.Sites.{AreAlikePools, IsAlikeBody, IsAlikeIn, IsUpdate, body_sites, captures_at, listed_sites, sheet_sites, site_if, site_of, sites_in, sites_of_sheets}
use Rattle.ic_parts.specs.declared.sites.MentionSite.TheVariants as sites

-- the cells of a sheet, before and after
module _ (strings : List (List ℕ)) (keys : KeyChange) (before after : machine.Sheet) (test : ℕ → Bool)
    (same : (index : ℕ) → test index ≡ captured_formula keys (formula_in before.pool index) (formula_in after.pool index))
  where
    cell_seen : (place : CellPlace) (o : Option ℕ) → map site_of (site_if before.id test place o) ≡ captured_at keys before after place o
    cell_seen place None = refl
    cell_seen place (Some index) = by_test (test index) ∙ ap (λ b. let all : List Site = cond b (CellSite before.id place ∷ []) [] in all) (same index)
      where
        by_test : (b : Bool) → map site_of (cond b (sites.Cell before.id place.0 place.1 ∷ []) []) ≡ cond b (CellSite before.id place ∷ []) []
        by_test true = refl
        by_test false = refl

    cells_seen : (es : List (CellPlace × Cell)) → map site_of (sites_in before.id test es)
        ≡ flat_map (λ (entry : Entry). captured_at keys before after entry.0 (formula_index entry.1)) (map (λ (e : CellPlace × Cell). let read : Entry = (e.0, content_of strings e.1) in read) es)
    cells_seen [] = refl
    cells_seen (e ∷ es) =
        map-append site_of (site_if before.id test e.0 (cell_formula_index e.1)) (sites_in before.id test es)
        ∙ ap₂ (λ (a b : List Site). a ++ b) (cell_seen e.0 (cell_formula_index e.1) ∙ ap (captured_at keys before after e.0) (sym (index_seen strings e.1))) (cells_seen es)

module _ (strings : List (List ℕ)) (made : Remade) (keys : KeyChange) (spared : (scope : Option ℕ) (formula : Formula) → made.touches scope formula ≡ false → captured_formula keys formula formula ≡ false) where
  sheet_seen : (rewrites : RewritesState) (s : HeldSheet) → IsRemade made rewrites s → AllByRecursion (LeavesUntouched made (Some s.id)) s.pool.formulas
      → map site_of (sheet_sites keys rewrites s) ≡ captured_cells keys (whole_sheet strings (sheet_of s), whole_sheet strings (remade_pool made (sheet_of s)))
  sheet_seen rewrites s is stay =
      cells_seen strings keys (whole_sheet strings (sheet_of s)) (whole_sheet strings (remade_pool made (sheet_of s))) (captures_at keys s.pool.formulas rewrites.changes)
      (λ index. ap (λ changes. captures_at keys s.pool.formulas changes index) is.listed ∙ captures_listed made keys (Some s.id) s.pool.formulas stay (spared (Some s.id)) index)
      (finite.entries s.grid.cells)
      ∙ ap (flat_map (λ (entry : Entry). captured_at keys (whole_sheet strings (sheet_of s)) (whole_sheet strings (remade_pool made (sheet_of s))) entry.0 (formula_index entry.1))) (sym (entries-seen (content_of strings) s.grid.cells))

  sheets_seen : (formulas : List (ℕ × RewritesState)) (ss : List HeldSheet) → AllByRecursion (λ (s : HeldSheet). IsRemade made (rewrites_of formulas s.id) s) ss → AllByRecursion (λ (s : HeldSheet). AllByRecursion (LeavesUntouched made (Some s.id)) s.pool.formulas) ss
      → map site_of (sites_of_sheets keys formulas ss) ≡ flat_map (captured_cells keys) (zip (map (whole_sheet strings) (sheets_of ss)) (map (whole_sheet strings) (map (remade_pool made) (sheets_of ss))))
  sheets_seen formulas [] are stay = refl
  sheets_seen formulas (s ∷ ss) are stay =
      map-append site_of (sheet_sites keys (rewrites_of formulas s.id) s) (sites_of_sheets keys formulas ss)
      ∙ ap₂ (λ (a b : List Site). a ++ b) (sheet_seen (rewrites_of formulas s.id) s are.0 stay.0) (sheets_seen formulas ss are.1 stay.1)

module _ (made : Remade) (keys : KeyChange) (sheets : List HeldSheet) (definitions : List Definition) (formulas : List (ℕ × RewritesState)) (bodies : List NewBody) (update : IsUpdate made keys sheets definitions formulas bodies) where
  pools_alike : (ss : List HeldSheet) → AllByRecursion (λ (s : HeldSheet). IsRemade made (rewrites_of formulas s.id) s) ss → AreAlikePools formulas ss
  pools_alike [] are = tt
  pools_alike (s ∷ ss) are =
      (subst (AllByRecursion (IsAlikeIn s.pool.formulas)) (sym are.0.listed) (alike_from made keys (Some s.id) s.pool.formulas (update.alike (Some s.id)) s.pool.formulas 0 refl), pools_alike ss are.1)

  -- what an update prepared keeps the shapes of the formulas
  pub update_alike : AreAlikePools formulas sheets × AllByRecursion (IsAlikeBody definitions) bodies
  update_alike = (
    pools_alike sheets update.pools.each,
    subst (AllByRecursion (IsAlikeBody definitions)) (sym update.bodies_listed) (alike_bodies_from made definitions update.alike definitions 0 refl),
  )

  -- What is listed of an update is what the machine says that it captures, where the formulas are those that it makes anew,
  -- and the updated definition is another one with another body.
  pub listed_captured : (book : Book) (after : machine.Book) (updated : NameKey) (new : Definition) (index : ℕ) → sheets_of sheets ≡ book.sheets → definitions ≡ book.definitions
      → after.sheets ≡ map (whole_sheet book.strings) (map (remade_pool made) book.sheets) → after.definitions ≡ updated_at (λ d. new) index (map (remade_body made) book.definitions)
      → ((d : Definition) → slice_get book.definitions index ≡ Some d → same_key updated (key_in d) ≡ true)
      → map site_of (listed_sites keys updated sheets definitions formulas bodies) ≡ captured_sites keys updated (whole_of book) after
  listed_captured book after updated new index held defined sheets_after definitions_after its =
      map-append site_of (sites_of_sheets keys formulas sheets) _
      ∙ ap₂ (λ (a b : List Site). a ++ b)
      (sheets_seen book.strings made keys update.spared formulas sheets update.pools.each update.formulas_stay
      ∙ ap (λ ss. flat_map (captured_cells keys) (zip (map (whole_sheet book.strings) ss) (map (whole_sheet book.strings) (map (remade_pool made) ss)))) held
      ∙ ap (λ ss. flat_map (captured_cells keys) (zip (map (whole_sheet book.strings) book.sheets) ss)) (sym sheets_after))
      (ap (λ bs. map site_of (flat_map (body_sites keys updated definitions) bs)) update.bodies_listed
      ∙ bodies_from made keys updated definitions update.spared definitions 0 refl update.bodies_stay
      ∙ ap (λ ds. flat_map (captured_body keys updated) (zip ds (map (remade_body made) ds))) defined
      ∙ sym (updated_apart made keys updated new book.definitions (map (remade_body made) book.definitions) index its)
      ∙ ap (λ ds. flat_map (captured_body keys updated) (zip book.definitions ds)) (sym definitions_after))
