use Rattle.std.proofs.Common.{sym, ◌∙◌}
use Rattle.ic_tree.proofs.Operands.{parsed_lacks, parsed_goes_on, parsed_is}
use Rattle.ic_tree.proofs.reader.parse.Goals as goal

pub returns-in_default-clause-tree : goal.returns-in_default-clause-tree
returns-in_default-clause-tree g c = parsed_lacks _ _ _ _ c.in_ok-tree.ensures c.in_default.is

pub returns-in-End-clause-tree : goal.returns-in-End-clause-tree
returns-in-End-clause-tree g c = parsed_is _ _ _ _ _ _ c.in_ok-tree.ensures c.in-Some.is (sym c.ahead.ensures ∙ c.in-End.is) c.into_tree.ensures

pub returns-in_default-ahead-clause-tree : goal.returns-in_default-ahead-clause-tree
returns-in_default-ahead-clause-tree g c = parsed_goes_on _ _ _ _ _ c.in_ok-tree.ensures c.in-Some.is (λ e. c.in_default-ahead.not-End (c.ahead.ensures ∙ e))
