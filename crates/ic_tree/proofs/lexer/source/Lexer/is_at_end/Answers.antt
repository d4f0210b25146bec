use Rattle.std.proofs.Common.{chars, ◌∙◌}
use Rattle.ic_tree.proofs.LexLemmas.{at_end}
use Rattle.ic_tree.proofs.SightLemmas.{none_comes}
use Rattle.ic_tree.proofs.lexer.source.Lexer.is_at_end.Goals as goal

pub returns : goal.returns
returns g c = λ empty.
    let lexer = c.args.self.now in
    let d = g.D.Dialect.meaning lexer.dialect.now in
    let none = none_comes d lexer.sight (chars lexer.rest.now) lexer.settled empty in
    c.is_nothing.ensures ∙ at_end d (g.met.D.Dialect.laws lexer.dialect.now) (chars lexer.rest.now) (chars c.past_blanks.result.now) c.past_blanks.ensures none ∙ lexer.known
