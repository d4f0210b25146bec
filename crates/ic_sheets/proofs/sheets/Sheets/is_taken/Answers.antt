use Rattle.std.proofs.Common.{◌∙◌, ap, is_some, chars}
use Rattle.ic_sheets.proofs.SearchLemmas.{taken_found}
use Rattle.ic_sheets.proofs.sheets.Sheets.is_taken.Goals as goal

pub returns : goal.returns
returns c = c.is_some.ensures ∙ ap is_some c.find.ensures ∙ taken_found (chars c.args.name.now) c.args.self.now
