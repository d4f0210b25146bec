use Rattle.std.proofs.Common.{◌∷◌, chars, sym}
use Rattle.ic_tree.proofs.FirstLemmas.{two_first}
use Rattle.ic_tree.proofs.lexer.signs.sign_at.Goals as goal

pub returns-in-Some : goal.returns-in-Some
returns-in-Some g c =
    let text = c.args.c ∷ chars c.args.after.now in
    sym (two_first (g.D.Dialect.meaning c.args.d.now) text _ (sym c.in-Some.ensures))
