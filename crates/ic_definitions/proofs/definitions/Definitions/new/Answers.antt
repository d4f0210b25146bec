use Rattle.std.proofs.Common.{subst, sym}
use Rattle.ic_definitions.specs.Mentioned.{KnowsBodies}
use Rattle.ic_definitions.proofs.NamedLemmas.{named_empty}
use Rattle.ic_definitions.proofs.definitions.Definitions.new.Goals as goal

pub invariant_of-result : goal.invariant_of-result
invariant_of-result c = (named_empty c.new.result.items c.new.ensures.items, subst (KnowsBodies c.new-2.result) (sym c.new.ensures.items) tt)
