-- Formulas that are handed in by their texts, by what they can mention.
use Rattle.std.specs.Prelude.{◌≡◌, ℕ, pos, List, Option, Some, None, map}
use Rattle.std.specs.List.{AllByRecursion}
use Rattle.ic_laws.specs.FormulaReading.{without_equals}
use Rattle.ic_laws.specs.Notations.{english_function}
use Rattle.ic_laws.specs.declared.scene.Scene.{Scene}
use Rattle.ic_laws.specs.declared.tree.Formula.{Formula}
use Rattle.ic_tables.specs.Tables.{TableSet}
use Rattle.ic_cells.specs.declared.workbook.DefinedName.{DefinedName}
use Rattle.ic_tree.specs.Notations.{in_english, notations_of}
use Rattle.ic_workbooks.specs.HandedIn.{IsFormula, formula_of, formula_or_none}

module _ (tables : TableSet) (scene : Scene) where
  -- a formula of the sheet with this id, by its text in the stored form
  abbrev pub sheet_formula_in : ℕ → List ℕ → Option Formula
  sheet_formula_in id text = formula_of (notations_of tables).stored (english_function (notations_of tables)) scene (Some id) text

  -- the body of a definition, by its text in English for the cell at row 1 and column 1, after one `=` at most
  abbrev pub body_formula_in : Option ℕ → List ℕ → Option Formula
  body_formula_in scope text = formula_of (in_english tables (pos 1) (pos 1)) (english_function (notations_of tables)) scene scope (without_equals text)

  -- that of the record of a definition
  abbrev pub record_body_in : DefinedName → Option Formula
  record_body_in name = body_formula_in name.sheet_id name.formula

-- What is read of several: the formula of each in their order, where each is one; and nothing where some isn't.
abbrev pub AreRead : {X : Type 0} → (X → Option Formula) → List X → Option (List Formula) → Type 0
AreRead read xs None = AllByRecursion (λ x. IsFormula (read x)) xs → ⊥
AreRead read xs (Some formulas) = AllByRecursion (λ x. IsFormula (read x)) xs × (formulas ≡ map (λ x. formula_or_none (read x)) xs)
