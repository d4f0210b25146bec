-- A formula that is written into an array in another notation leaves the same.
use Rattle.std.proofs.Common.{◌≡◌, ◌≢◌, ℕ, ◌-◌, List, [], ◌∷◌, Bool, true, not, Option, Some, None, Ok, refl, sym, ap, ap₂, subst, ◌∙◌}
use Rattle.std.proofs.lemmas.Bool.{not-false}
use Rattle.std.specs.List.{slice_get}
use Rattle.std.specs.Prelude.{option_and_then, option_map}
use Rattle.ic_laws.specs.Character.{equals}
use Rattle.ic_laws.specs.CoreBook.{CellPlace}
use Rattle.ic_laws.specs.FormulaReading.{is_formula_text, without_equals}
use Rattle.ic_laws.specs.Notations.{is_cell}
use Rattle.ic_laws.specs.declared.tree.Formula.{Formula}
use Rattle.ic_cells.specs.declared.layout.Merge.{Merge}
use Rattle.ic_grid.proofs.BlockLemmas.{first_in}
use Rattle.ic_grid.proofs.RowLemmas.{area_inside}
use Rattle.ic_grid.specs.Arrays.{has_fixed, is_fixed}
use Rattle.ic_grid.specs.Block.{first_place, is_area}
use Rattle.ic_grid.specs.Contents.{Contents}
use Rattle.ic_grid.specs.Merges.{meets_merge}
use Rattle.ic_grid.specs.Spill.{array_written}
use Rattle.ic_grid.specs.declared.block.Block.{Block}
use Rattle.ic_machine.specs.Book.{Book, Sheet, found_or, scene_in, unless, unless_refused}
use Rattle.ic_machine.specs.Command.{OnArrays}
use Rattle.ic_machine.specs.Content.{Content, held}
use Rattle.ic_machine.specs.Placed.{index_in_pool, pool_with}
use Rattle.ic_machine.specs.Refusal.{ArrayPart, BadArea, Causes, InvalidSheet, MergedPart, NotAFormula, Refusal, first_refusal}
use Rattle.ic_machine.specs.Reply.{Field}
use Rattle.ic_machine.specs.Same.{IsSameBook, IsSameSheet, unstyled}
use Rattle.ic_machine.specs.Step.{step}
use Rattle.ic_machine.specs.Translation.{array_formula, cell_text, in_notation, why_not}
use Rattle.ic_machine.specs.TranslationLaws.{ArrayIsSame, IsWritable, LeavesSame}
use Rattle.ic_machine.specs.Valid.{IsValidBook}
use Rattle.ic_machine.specs.subjects.Arrays as arrays
use Rattle.ic_machine.specs.subjects.Arrays.{array_causes, array_step, place_count, with_array}
use Rattle.ic_machine.specs.subjects.Writing.{formula_at_place}
use Rattle.ic_machine.proofs.valid.BesideLemmas.{twin_valid}
use Rattle.ic_machine.proofs.contents.AlikeGrid.{has_in_as}
use Rattle.ic_machine.proofs.contents.BareGrid.{array_bare, bare, bared, no_columns, no_rows, seen_bare}
use Rattle.ic_machine.proofs.same.FormulaSame.{IsAgain, formula_again}
use Rattle.ic_machine.proofs.bound.InsertedBinds.{accepted}
use Rattle.ic_machine.proofs.valid.InsertedStays.{none_holds}
use Rattle.ic_machine.proofs.same.SameLemmas.{contents_same}
use Rattle.ic_machine.proofs.same.SameSteps.{contents_back, with_sheet_same}
use Rattle.ic_machine.proofs.bound.SceneLemmas.{placed}
use Rattle.ic_machine.proofs.same.WritingSame.{both_clear}
use Rattle.ic_machine.proofs.same.ZippedLemmas.{BothFound, zipped_found}

-- an equals sign and something after it
is_text_of : (shown : List ℕ) → shown ≢ [] → is_formula_text (equals ∷ shown) ≡ true
is_text_of [] some = absurd (some refl)
is_text_of (c ∷ cs) some = refl

-- the causes of a sheet are the same
array_causes_same : (s t : Sheet) → IsSameSheet s t → (block : Block) (text : List ℕ) → array_causes s block text ≡ array_causes t block text
array_causes_same s t same block text =
    ap₂
    (λ (meets fixed : Bool).
    let causes : Causes = (not (is_area block), BadArea) ∷ (meets, MergedPart) ∷ (fixed, ArrayPart) ∷ (not (is_formula_text text), NotAFormula) ∷ [] in causes)
    (ap (λ (merges : List Merge). meets_merge merges block) same.grid.merges)
    (sym (has_in_as unstyled held bare seen_bare s.grid.contents block is_fixed)
    ∙ ap (λ (m : Contents Content). has_fixed bare m block) (contents_same s.grid t.grid same.grid)
    ∙ has_in_as unstyled held bare seen_bare t.grid.contents block is_fixed)

-- the same array is written
module _ (b c : Book) (same : IsSameBook b c) (index : ℕ) (s t : Sheet) (sheets : IsSameSheet s t) (block : Block) (formula : Formula) where
  abbrev left_in : Book → Sheet → Contents Content
  left_in x u = (array_written held u.grid.rows u.grid.columns block (place_count block - 1) (index_in_pool formula u.pool) u.grid.contents x.styles).0

  array_contents : bared (left_in b s) ≡ bared (left_in c t)
  array_contents =
      sym (array_bare s.grid.rows s.grid.columns block (place_count block - 1) (index_in_pool formula s.pool) s.grid.contents b.styles)
      ∙ ap₂ (λ (at : ℕ) (m : Contents Content). (array_written bare no_rows no_columns block (place_count block - 1) at m []).0)
      (ap (index_in_pool formula) sheets.pool) (contents_same s.grid t.grid sheets.grid)
      ∙ array_bare t.grid.rows t.grid.columns block (place_count block - 1) (index_in_pool formula t.pool) t.grid.contents c.styles

  with_array_same : IsSameBook (with_array b index s block formula) (with_array c index t block formula)
  with_array_same =
      with_sheet_same b c same index _ _ _ _
      (record {
        id = sheets.id;
        name = sheets.name;
        pool = ap (pool_with formula) sheets.pool;
        grid = contents_back (left_in b s) (left_in c t) array_contents s.grid t.grid sheets.grid;
        tab = sheets.tab;
      })

abbrev ArrayStays : (book left other : Book) (sheet : ℕ) (block : Block) (text locale language : List ℕ) → Type 0
ArrayStays book left other sheet block text locale language =
    IsWritable locale language book (OnArrays (arrays.SetUserArrayFormula sheet block text))
    → LeavesSame left (step other (OnArrays (arrays.SetUserArrayFormula sheet block (cell_text (in_notation locale language left) (first_place block) (array_formula book (arrays.SetUserArrayFormula sheet block text))))))

module _ (b left c : Book) (valid : IsValidBook b) (valid_there : IsValidBook (in_notation c.locale c.language b)) (same : IsSameBook b c) (fields : List Field) (index : ℕ) (block : Block) (text : List ℕ) where
  abbrev place : CellPlace
  place = first_place block

  abbrev own : Option Formula
  own = array_formula b (arrays.SetUserArrayFormula index block text)

  abbrev new : List ℕ
  new = cell_text (in_notation c.locale c.language left) place own

  found_array : (o p : Option Sheet) → BothFound IsSameSheet o p → slice_get b.sheets index ≡ o → slice_get c.sheets index ≡ p
      → found_or InvalidSheet (option_map (λ s. unless_refused (array_causes s block text) (with_array b index s block (formula_at_place b s place (without_equals text))) []) o) ≡ Ok (left, fields)
      → option_and_then (why_not (in_notation c.locale c.language b)) own ≡ None
      → LeavesSame left (found_or InvalidSheet (option_map (λ t. unless_refused (array_causes t block new) (with_array c index t block (formula_at_place c t place (without_equals new))) []) p))
  found_array None p both at there e writable = absurd (cc)
  found_array (Some s) None both at there e writable = absurd both
  found_array (Some s) (Some t) both at there e writable =
      let formula : Formula = formula_at_place b s place (without_equals text) in
      let done = accepted (first_refusal (array_causes s block text)) (with_array b index s block formula) left [] fields e in
      let clear = none_holds (array_causes s block text) done.0 in
      let area : is_area block ≡ true = not-false (is_area block) clear.0 in
      let cell : is_cell place.0 place.1 ≡ true = area_inside block area place (first_in place block.width block.height area) in
      let is : own ≡ Some formula = ap (option_map (λ (sheet : Sheet). formula_at_place b sheet place (without_equals text))) at in
      let again : IsAgain c left t place formula =
      formula_again b c valid valid_there same left (ap (λ (x : Book). x.tables) done.1 ∙ same.tables) (ap scene_in done.1 ∙ placed b index s _ at refl) index s t at there both place cell (without_equals text)
      (ap (option_and_then (why_not (in_notation c.locale c.language b))) (sym is) ∙ writable) in
      let new_is : new ≡ equals ∷ again.shown = ap (cell_text (in_notation c.locale c.language left) place) is ∙ again.text in
      let reads : formula_at_place c t place (without_equals new) ≡ formula = ap (λ (x : List ℕ). formula_at_place c t place (without_equals x)) new_is ∙ again.reads in
      let written : is_formula_text new ≡ true = ap is_formula_text new_is ∙ is_text_of again.shown again.some in
      let front : Causes = (not (is_area block), BadArea) ∷ (meets_merge s.grid.merges block, MergedPart) ∷ (has_fixed held s.grid.contents block, ArrayPart) ∷ [] in
      let free : first_refusal (array_causes s block new) ≡ None =
      both_clear front ((not (is_formula_text text), NotAFormula) ∷ []) ((not (is_formula_text new), NotAFormula) ∷ []) done.0 (ap (λ (good : Bool). first_refusal ((not good, NotAFormula) ∷ [])) written) in
      let free_there : first_refusal (array_causes t block new) ≡ None = ap first_refusal (sym (array_causes_same s t both block new)) ∙ free in
      let left_there : Book = with_array c index t block (formula_at_place c t place (without_equals new)) in (
        left_there,
        (
          [],
          (
            ap (λ (o : Option Refusal). unless o left_there []) free_there,
            subst (λ (x : Book). IsSameBook x left_there) (sym done.1)
                (subst (λ (f : Formula). IsSameBook (with_array b index s block formula) (with_array c index t block f)) (sym reads) (with_array_same b c same index s t both block formula)),
          ),
        ),
      )

  array_stays : step b (OnArrays (arrays.SetUserArrayFormula index block text)) ≡ Ok (left, fields) → ArrayStays b left c index block text c.locale c.language
  unfolding array_step
  array_stays e writable = found_array (slice_get b.sheets index) (slice_get c.sheets index) (zipped_found IsSameSheet b.sheets c.sheets same.sheets index) refl refl e writable

pub array_is_same : (locale language : List ℕ) → ArrayIsSame locale language
array_is_same locale language book left other fields sheet block text beside e =
    subst (λ (l : List ℕ). ArrayStays book left other sheet block text l language) beside.locale_is
    (subst (λ (l : List ℕ). ArrayStays book left other sheet block text other.locale l) beside.language_is
    (array_stays book left other beside.valid (twin_valid locale language book other beside) beside.same fields sheet block text e))
