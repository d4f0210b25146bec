use Rattle.std.proofs.Common.{◌∙◌}
use Rattle.ic_sheets.proofs.PlaceLemmas.{greatest_same}
use Rattle.ic_sheets.proofs.sheets.greatest_in.Goals as goal

pub returns : goal.returns
returns c = λ sheets placed. c.greatest_id.ensures ∙ greatest_same c.args.indexes.now sheets placed
