-- Which sheets have formulas that mention what, each thing told by its topic and each sheet by its id.
use Rattle.std.specs.Prelude.{◌≡◌, ℕ, List, true, false, map}
use Rattle.std.specs.List.{AllByRecursion, list_any}
use Rattle.ic_laws.specs.declared.tree.Formula.{Formula}
use Rattle.ic_pool.specs.MentionPlaces.{HasAt}
use Rattle.ic_pool.specs.Topics.{mentions_some, topics_in}
use Rattle.ic_sheets.specs.Index.{is_listed, is_part}
use Rattle.ic_sheets.specs.declared.mentioners.Mentioners.{Mentioners}
use Rattle.ic_sheets.specs.declared.sheet.Sheet.{Sheet}

-- where they have all, each topic that a formula mentions leads to this id
abbrev pub KnowsFormula : Mentioners → ℕ → Formula → Type 0
KnowsFormula mentioners id formula = mentioners.has_all ≡ true → HasAt mentioners.index id (topics_in formula)

-- so of each of these formulas
abbrev pub KnowsPool : Mentioners → ℕ → List Formula → Type 0
KnowsPool mentioners id formulas = AllByRecursion (KnowsFormula mentioners id) formulas

-- and of those of each of these sheets, by its id
abbrev pub KnowsSheets : Mentioners → List Sheet → Type 0
KnowsSheets mentioners sheets = AllByRecursion (λ s. KnowsPool mentioners s.id s.pool.formulas) sheets

-- what was known still is
abbrev pub KeepsKnown : Mentioners → Mentioners → Type 0
KeepsKnown before after = (id : ℕ) (formula : Formula) → KnowsFormula before id formula → KnowsFormula after id formula

-- These are ids of sheets, in the order of the sheets. In every other sheet no formula mentions something with one of these
-- topics.
pub record AreAbout (topics ids : List ℕ) (sheets : List Sheet) : Type 0 where
  pub ordered : is_part ids (map (λ s. s.id) sheets) ≡ true
  pub others : AllByRecursion (λ s. is_listed s.id ids ≡ false → list_any (mentions_some topics) s.pool.formulas ≡ false) sheets
