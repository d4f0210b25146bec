use Rattle.std.proofs.Common.{Option, option_map, ap, sym, chars, codes, ◌∙◌, ◌++◌}
use Rattle.std.specs.Option.{option_or}
use Rattle.std.proofs.lemmas.Result.{IfOk-weaker}
use Rattle.ic_laws.specs.ReadAs.{read_as}
use Rattle.ic_laws.specs.Tree.{Bound}
use Rattle.ic_tree.specs.Typed.{as_typed}
use Rattle.ic_parts.proofs.formulas.read_cell.Goals as goal

pub returns-in-None : goal.returns-in-None
returns-in-None g c =
    IfOk-weaker c.read_closed.result _ _
    (λ t e. e ∙ sym (ap (λ o. option_or o (read_as (g.D.Dialect.meaning c.args.d.now) (chars c.args.text.now ++ codes ")"))) (sym c.in_ok-tree.ensures ∙ ap (λ (o : Option Bound). option_map as_typed o) c.in-None.is)))
    c.read_closed.ensures
