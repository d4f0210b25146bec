use Rattle.ic_sheets.proofs.SortLemmas.{made_of}
use Rattle.ic_sheets.proofs.sheets.spots.Spots.of_sheets.Goals as goal

pub returns : goal.returns
returns c = made_of c.args.sheets.now c.in_ok-list.list.items c.of.result c.in_ok-list.ensures c.of.ensures
