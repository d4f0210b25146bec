use Rattle.std.proofs.Common.{chars, sym}
use Rattle.ic_tree.specs.Lexing.{found}
use Rattle.ic_tree.specs.Tokens.{token_of}
use Rattle.ic_tree.proofs.LocalFirst.{local_over_named}
use Rattle.ic_tree.proofs.lexer.next.local_or_named.Goals as goal

pub returns-in-Ok-Some : goal.returns-in-Ok-Some
returns-in-Ok-Some g c =
    sym
    (local_over_named (g.D.Dialect.meaning c.args.d.now) (g.met.D.Dialect.laws c.args.d.now) (chars c.args.text.now) (found (token_of c.in-Ok-Some.found.0) (chars c.in-Ok-Some.found.1.now))
    (rw c.in-Ok-Some.field-0-is at c.in-Ok-Some.ensures))
