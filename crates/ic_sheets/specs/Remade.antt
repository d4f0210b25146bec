-- What becomes of the formulas of all sheets where a rule makes them anew.
use Rattle.std.specs.Prelude.{◌≡◌, ◌&&◌, ℕ, List, [], Bool, Some, false, map, nat_eq, not, true}
use Rattle.std.specs.List.{AllByRecursion, IsDistinct, list_any}
use Rattle.std.specs.Option.{unwrap_or}
use Rattle.ic_pool.specs.Remade.{Remade, touched_from}
use Rattle.ic_pool.specs.Rewrites.{FitsPool, RewritesState, rewritten_by}
use Rattle.ic_sheets.specs.Index.{is_part}
use Rattle.ic_sheets.specs.Rewriting.{own_rewrites}
use Rattle.ic_sheets.specs.Sheet.{Sheet}
use Rattle.ic_sheets.specs.declared.sheet.Sheet.{Sheet as HeldSheet}

-- a sheet with each of its formulas as the rule makes it
abbrev pub remade_pool : Remade → Sheet → Sheet
remade_pool rule sheet = record sheet { pool = map (rule.becomes (Some sheet.id)) sheet.pool }

-- The look-up of a sheet has all of its formulas afterwards where it had all before, and the rule touches none of them.
abbrev pub looks_up_remade : Remade → HeldSheet → Bool
looks_up_remade rule sheet = sheet.pool.is_whole && not (list_any (rule.touches (Some sheet.id)) sheet.pool.formulas)

-- this was prepared for a sheet, whose formulas the rule is to make anew: the changes are those that it touches
pub record IsRemade (rule : Remade) (rewrites : RewritesState) (sheet : HeldSheet) : Type 0 where
  pub made : rewritten_by rewrites sheet.pool.formulas ≡ map (rule.becomes (Some sheet.id)) sheet.pool.formulas
  pub listed : rewrites.changes ≡ touched_from rule (Some sheet.id) 0 sheet.pool.formulas
  pub fits : FitsPool rewrites sheet.pool.formulas

-- no formula becomes another
abbrev pub nothing : RewritesState
nothing = record { changes = []; keeps_keys = false; places = []; old_keys = [] }

-- what was prepared for the sheet with this id: nothing, where it isn't named
abbrev pub rewrites_of : List (ℕ × RewritesState) → ℕ → RewritesState
rewrites_of prepared id = unwrap_or (own_rewrites id prepared) nothing

-- These were prepared for all sheets, by their ids, of which no two are equal, and in the order of the sheets.
pub record AreRemade (rule : Remade) (prepared : List (ℕ × RewritesState)) (sheets : List HeldSheet) : Type 0 where
  pub each : AllByRecursion (λ s. IsRemade rule (rewrites_of prepared s.id) s) sheets
  pub ordered : is_part (map (λ p. p.0) prepared) (map (λ s. s.id) sheets) ≡ true
  pub apart : IsDistinct nat_eq (map (λ s. s.id) sheets)
