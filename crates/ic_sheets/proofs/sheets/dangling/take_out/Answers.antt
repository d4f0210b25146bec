use Rattle.std.proofs.Common.{rules, not}
use Rattle.std.specs.Prelude.{nat_eq}
use Rattle.std.proofs.lemmas.Fn.{filter_same}
use Rattle.ic_sheets.proofs.sheets.dangling.take_out.Goals as goal

pub returns-clause-ids : goal.returns-clause-ids
returns-clause-ids c = filter_same _ (λ q. not (nat_eq q c.args.id)) _ (λ q b f' k. search rules) _ _ c.retain.ensures.filtered
