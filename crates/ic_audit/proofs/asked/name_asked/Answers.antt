use Rattle.std.proofs.Common.{chars, ap, option_map, sym, ◌∙◌}
use Rattle.ic_audit.specs.Asked.{OfName}
use Rattle.ic_audit.proofs.AskedLemmas.{of_name, other_kind_of_three}
use Rattle.ic_audit.proofs.asked.name_asked.Goals as goal

pub returns-then-not-same_text : goal.returns-then-not-same_text
returns-then-not-same_text c = other_kind_of_three (chars c.args.kind.now) (chars c.args.name.now) (chars c.args.scope.now) (sym c.if-not-same_text.ensures)

pub returns : goal.returns
returns c =
    ap (option_map (OfName (chars c.args.name.now))) (sym c.in_ok-scope.was)
    ∙ of_name (chars c.args.kind.now) (chars c.args.name.now) (chars c.args.scope.now) (sym c.if-not-same_text.ensures) c.scope_said.result c.scope_said.ensures.exact
