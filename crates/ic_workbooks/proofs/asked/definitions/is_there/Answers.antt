use Rattle.std.proofs.Common.{◌∙◌, ap, is_some}
use Rattle.std.specs.List.{position}
use Rattle.ic_laws.specs.CoreStep.{is_named}
use Rattle.ic_workbooks.proofs.AskedLemmas.{found_there}
use Rattle.ic_workbooks.proofs.asked.definitions.is_there.Goals as goal

pub returns : goal.returns
returns c =
    c.is_some.ensures ∙ ap is_some (c.index_of.ensures ∙ ap (λ name. position (is_named name c.args.name.now.sheet_id) c.args.definitions.now) c.as_str.ensures.characters)
    ∙ found_there c.args.name.now.name c.args.name.now.sheet_id c.args.definitions.now
