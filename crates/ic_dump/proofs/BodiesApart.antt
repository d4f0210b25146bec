-- No passing sheet has a name that a definition's body means, so that bodies stay while such sheets come and go.
use Rattle.std.proofs.Common.{◌≡◌, ℕ, List, [], ◌∷◌, flat_map, map, false, Option, refl, ap, subst}
use Rattle.std.proofs.lemmas.Grind.{flat_map-append}
use Rattle.std.specs.List.{AllByRecursion, list_any}
use Rattle.ic_laws.proofs.kept.Kept.{english_by_fold}
use Rattle.ic_laws.specs.CoreBook.{CellPlace, CoreBook, Definition, Sheet, names_of}
use Rattle.ic_laws.specs.Keeping.{kept_formula, kept_in_body, same_keys}
use Rattle.ic_laws.specs.Name.{agrees}
use Rattle.ic_laws.specs.Notations.{AreNotations, Notations, english_function}
use Rattle.ic_laws.specs.Scene.{SheetsDiffer}
use Rattle.ic_laws.specs.ValidCore.{IsKeptBody, IsKeptFormula}
use Rattle.ic_laws.specs.declared.scene.Scene.{Scene}
use Rattle.ic_laws.specs.declared.scene.SheetName.{SheetName}
use Rattle.ic_laws.specs.declared.tree.Formula.{Formula}
use Rattle.ic_laws.specs.declared.tree.Formula.TheVariants as formulas
use Rattle.std.specs.Prelude.{pos}
use Rattle.ic_machine.proofs.valid.ValidLemmas.{all_of}
use Rattle.ic_laws.proofs.core.Lists.{none_passes}
use Rattle.ic_dump.specs.Passing.{formulas_in, passing_sheets, taken_names, unfound_of}
use Rattle.ic_dump.proofs.ApartLemmas.{IsNoName, stays_over, with_sheets}
use Rattle.ic_dump.proofs.LackedNames.{of_mentions}
use Rattle.ic_dump.proofs.ListLemmas.{back_holds, flipped_holds, front_holds}
use Rattle.ic_dump.proofs.StandLemmas.{Stands}

-- what holds of all names that a passing sheet can't have holds of those that each body lacks
pub bodies_lack : (P : List ℕ → Type 0) (core : CoreBook) → AllByRecursion P (taken_names core) → AllByRecursion (λ (d : Definition). AllByRecursion P (unfound_of d.body)) core.definitions
bodies_lack P core h =
    let cells : List Formula = flat_map (λ (s : Sheet). map (λ (cell : CellPlace × Formula). cell.1) s.cells) core.sheets in
    let bodies : List Formula = map (λ (d : Definition). d.body) core.definitions in
    each core.definitions
    (back_holds P (flat_map unfound_of cells) (flat_map unfound_of bodies)
    (subst (AllByRecursion P) (flat_map-append unfound_of cells bodies) (back_holds P (names_of core) (flat_map unfound_of (formulas_in core)) h)))
  where
    each : (ds : List Definition) → AllByRecursion P (flat_map unfound_of (map (λ (d : Definition). d.body) ds)) → AllByRecursion (λ (d : Definition). AllByRecursion P (unfound_of d.body)) ds
    each [] g = tt
    each (d ∷ ds) g =
        let rest : List (List ℕ) = flat_map unfound_of (map (λ (x : Definition). x.body) ds) in
        (front_holds P (unfound_of d.body) rest g, each ds (back_holds P (unfound_of d.body) rest g))

-- no passing sheet has such a name
pub passing_apart : (core : CoreBook) → Stands core → AllByRecursion (λ (d : Definition). AllByRecursion (IsNoName (passing_sheets core)) (unfound_of d.body)) core.definitions
passing_apart core all =
    bodies_lack (IsNoName (passing_sheets core)) core
    (flipped_holds (λ (s : SheetName) (name : List ℕ). agrees s.name name ≡ false) (passing_sheets core) (taken_names core)
    (all_of (λ (s : SheetName). list_any (agrees s.name) (taken_names core) ≡ false) (λ (s : SheetName). AllByRecursion (λ (name : List ℕ). agrees s.name name ≡ false) (taken_names core))
    (λ s h. none_passes (agrees s.name) (taken_names core) h) (passing_sheets core) all.apart))

-- a body stays where such sheets stood before, and where they stand after
module _ (n : Notations) (are : AreNotations n) (scene : Scene) (before after : List SheetName) (differ_before : SheetsDiffer (with_sheets scene before)) (differ_after : SheetsDiffer (with_sheets scene after)) where
  pub formula_stays : (scope : Option ℕ) (f : Formula) → IsKeptFormula n scene scope (pos 1) (pos 1) f → AllByRecursion (IsNoName before) (unfound_of f) → AllByRecursion (IsNoName after) (unfound_of f)
      → kept_formula (english_function n) (with_sheets scene before) (with_sheets scene after) same_keys scope f ≡ f
  formula_stays scope (formulas.Raw text) kept a b = refl
  formula_stays scope (formulas.Tree t) kept a b =
      ap formulas.Tree
      (stays_over scene (english_function n) (english_by_fold n are) scope t kept.settled before after differ_before differ_after (of_mentions (IsNoName before) t a) (of_mentions (IsNoName after) t b))

  pub body_stays : (d : Definition) → IsKeptBody n scene d → AllByRecursion (IsNoName before) (unfound_of d.body) → AllByRecursion (IsNoName after) (unfound_of d.body)
      → kept_in_body n (with_sheets scene before) (with_sheets scene after) same_keys d ≡ d
  body_stays d kept a b = ap (λ (f : Formula). record d { body = f }) (formula_stays d.scope d.body kept a b)
