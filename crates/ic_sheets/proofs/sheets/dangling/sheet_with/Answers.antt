use Rattle.std.proofs.Common.{Some, None, sym, ◌∙◌}
use Rattle.ic_sheets.proofs.PlaceLemmas.{first_at, place_is}
use Rattle.ic_sheets.proofs.sheets.dangling.sheet_with.Goals as goal

pub returns-in-Some : goal.returns-in-Some
returns-in-Some c placed =
    c.sheet_at.ensures ∙ first_at c.args.id c.args.sheets.now (Some c.in-Some.index) (sym c.in-Some.is ∙ c.index_in.ensures ∙ placed.finds c.args.id ∙ place_is c.args.id c.args.sheets.now)

pub returns-in-None : goal.returns-in-None
returns-in-None c placed = first_at c.args.id c.args.sheets.now None (sym c.in-None.is ∙ c.index_in.ensures ∙ placed.finds c.args.id ∙ place_is c.args.id c.args.sheets.now)
