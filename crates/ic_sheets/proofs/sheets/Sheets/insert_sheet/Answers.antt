use Rattle.std.proofs.Common.{ap, ◌∙◌}
use Rattle.ic_sheets.proofs.KeptLemmas.{finds_same}
use Rattle.ic_sheets.proofs.OwnLemmas.{same_ids, same_names}
use Rattle.ic_sheets.proofs.SearchLemmas.{ids, names}
use Rattle.ic_sheets.proofs.sheets.Sheets.insert_sheet.Goals as goal

pub returns-clause-finds : goal.returns-clause-finds
returns-clause-finds g c =
    finds_same c.insert_unapplied.new.ids c.insert_unapplied.new.self c.apply.new.self c.in_ok-prepared.ensures.finds
    (ap names c.apply.ensures ∙ same_names c.in_ok-prepared.prepared.items c.insert_unapplied.new.self) (ap ids c.apply.ensures ∙ same_ids c.in_ok-prepared.prepared.items c.insert_unapplied.new.self)
