use Rattle.std.proofs.Common.{◌∙◌}
use Rattle.ic_laws.specs.Parse.{constant, past_separator}
use Rattle.ic_laws.proofs.parsing.ListFuelLemmas.{constants_shrink}
use Rattle.ic_tree.proofs.ListSteps.{list_fails, list_last, list_more}
use Rattle.ic_tree.proofs.reader.array.read_row.Goals as goal

pub returns-in_default : goal.returns-in_default
returns-in_default g c = list_fails constant past_separator constants_shrink c.items.constants.items _ _ _ c.in_ok-next.ensures c.in_default.is ∙ c.items.invariant

pub returns-then-not-branch : goal.returns-then-not-branch
returns-then-not-branch g c = list_last constant past_separator constants_shrink c.items.constants.items _ _ _ _ _ _ _ c.in_ok-next.ensures c.in-Some.is (c.from.ensures ∙ (c.shrink_to_fit.ensures.items ∙ c.in_ok-push.ensures.items)) c.in_ok-take_separator.ensures c.if-not-branch.true ∙ c.items.invariant

pub items-preserved : goal.items-preserved
items-preserved g c = list_more constant past_separator constants_shrink c.items.constants.items _ _ _ _ _ _ _ c.in_ok-next.ensures c.in-Some.is c.in_ok-push.ensures.items c.in_ok-take_separator.ensures c.if-not-branch.false ∙ c.items.invariant
