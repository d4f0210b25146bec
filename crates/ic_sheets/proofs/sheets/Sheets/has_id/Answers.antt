use Rattle.std.proofs.Common.{◌∙◌, ap, is_some, sym}
use Rattle.ic_sheets.proofs.PlaceLemmas.{place_is}
use Rattle.ic_sheets.proofs.RecordLemmas.{has_place}
use Rattle.ic_sheets.proofs.sheets.Sheets.has_id.Goals as goal

pub returns : goal.returns
returns c = c.is_some.ensures ∙ ap is_some (c.index_of_id.ensures ∙ sym (place_is c.args.id c.args.self.now)) ∙ has_place c.args.id c.args.self.now
