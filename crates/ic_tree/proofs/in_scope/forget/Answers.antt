use Rattle.std.proofs.Common.{◌∙◌}
use Rattle.ic_tree.proofs.ScopeLemmas.{forgotten}
use Rattle.ic_tree.proofs.in_scope.forget.Goals as goal

pub returns-then-eq : goal.returns-then-eq
returns-then-eq c =
    forgotten c.args.places.now c.remove.new.self c.args.key.now c.args.place c.remove.ensures.updates c.copied.result (c.copied.ensures ∙ c.get.ensures.value) c.if-eq.ensures
