use Rattle.std.proofs.Common.{chars, rules, ◌∙◌}
use Rattle.std.proofs.lemmas.Result.{IfOk-weaker}
use Rattle.ic_tree.specs.Lexing.{seen_token}
use Rattle.ic_tree.proofs.NumberFirst.{number_first}
use Rattle.ic_tree.proofs.lexer.next.named_token.Goals as goal

pub returns-in-Some : goal.returns-in-Some
returns-in-Some g c =
    IfOk-weaker c.kept_with.result _ _
    (λ r h. h
    ∙ number_first (g.D.Dialect.meaning c.args.d.now) (g.met.D.Dialect.laws c.args.d.now) (chars c.args.text.now) c.requires.0 c.args.c (seen_token c.in-Some.seen) (chars c.in-Some.rest.now) c.requires.1 (search rules) c.in-Some.ensures)
    c.kept_with.ensures
