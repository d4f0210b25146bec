use Rattle.std.proofs.Common.{ap, arith, length, subst, sym}
use Rattle.ic_sheets.specs.Holders.{KnowsHolders}
use Rattle.ic_sheets.proofs.DanglingLemmas.{dangling_empty}
use Rattle.ic_sheets.proofs.KeptLemmas.{kept_empty}
use Rattle.ic_sheets.proofs.PlaceLemmas.{placed_empty}
use Rattle.ic_sheets.specs.Mentioners.{KnowsSheets}
use Rattle.ic_sheets.proofs.sheets.Sheets.new.Goals as goal

pub invariant_of-result : goal.invariant_of-result
invariant_of-result c = (
  kept_empty c.new.result.items c.new.ensures.items,
  placed_empty c.new-2.result c.new.result.items c.new-2.ensures c.new.ensures.items,
  dangling_empty c.new-3.result.items c.new.result.items c.new-3.ensures.items c.new.ensures.items,
  omega (arith, ap length c.new.ensures.items),
  subst (KnowsSheets c.new-4.result) (sym c.new.ensures.items) tt,
  subst (KnowsHolders c.new-5.result) (sym c.new.ensures.items) tt,
)
