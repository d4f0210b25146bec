-- Which sheets hold cells, each told by its id.
use Rattle.std.specs.Prelude.{◌≡◌, ◌+◌, ℕ, List, [], ◌∷◌, ⊤, false, true}
use Rattle.std.specs.BTreeSet.{BTreeSet, contains}
use Rattle.std.specs.FinMap as finite
use Rattle.std.specs.List.{AllByRecursion}
use Rattle.std.specs.Ordering.{nat_cmp}
use Rattle.ic_sheets.specs.Index.{is_listed}
use Rattle.ic_sheets.specs.declared.sheet.Sheet.{Sheet}
use Rattle.ic_sheets.specs.declared.sheets.holders.Holders.{Holders}

-- where they have all, a sheet that isn't one of them has no cells
abbrev pub KnowsCells : Holders → Sheet → Type 0
KnowsCells holders sheet = holders.has_all ≡ true → is_listed sheet.id holders.ids.items ≡ false → finite.keys sheet.grid.cells ≡ []

-- so of each of these sheets
abbrev pub KnowsHolders : Holders → List Sheet → Type 0
KnowsHolders holders sheets = AllByRecursion (KnowsCells holders) sheets

-- what was known still is
abbrev pub KeepsHolders : Holders → Holders → Type 0
KeepsHolders before after = (sheet : Sheet) → KnowsCells before sheet → KnowsCells after sheet

-- each of these sheets, the first of which stands at this index, has no cells unless its index is one of those
abbrev pub AreHolders : BTreeSet ℕ → ℕ → List Sheet → Type 0
AreHolders indexes index [] = ⊤
AreHolders indexes index (sheet ∷ sheets) = (contains nat_cmp indexes index ≡ false → finite.keys sheet.grid.cells ≡ []) × AreHolders indexes (index + 1) sheets
