use Rattle.std.proofs.Common.{sym, ◌∙◌}
use Rattle.ic_audit.proofs.AskedLemmas.{no_words}
use Rattle.ic_pool.proofs.PlaceLemmas.{no_items as empty_list}
use Rattle.ic_audit.proofs.asked.asked_for.Goals as goal

pub returns-then-is_empty : goal.returns-then-is_empty
returns-then-is_empty c = no_words c.args.words.now (empty_list c.args.words.now (sym c.is_empty.ensures ∙ c.if-is_empty.true))
