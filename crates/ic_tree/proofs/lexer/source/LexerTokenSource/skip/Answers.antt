use Rattle.std.proofs.Common.{None, chars, refl, sym, ◌∙◌}
use Rattle.ic_tree.specs.Lexing.{found, tokens_before}
use Rattle.ic_tree.specs.Tokens.{token_of}
use Rattle.ic_tree.proofs.LexLemmas.{none_first, some_first}
use Rattle.ic_tree.proofs.SightLemmas.{passes_one, settled_none}
use Rattle.ic_tree.proofs.lexer.source.LexerTokenSource.skip.Goals as goal

pub invariant_of-self : goal.invariant_of-self
invariant_of-self g c =
    let lexer = c.args.self.now in
    let d = g.D.Dialect.meaning lexer.dialect.now in
    let rest = chars c.past_blanks-rest.result.now in
    let first = none_first d (g.met.D.Dialect.laws lexer.dialect.now) (chars lexer.rest.now) rest c.past_blanks-rest.ensures (rw c.in-Ok-None.field-0-is at c.in-Ok-None.ensures) in
    record { known = first.2 ∙ lexer.known; settled = settled_none None (tokens_before d rest) refl first.1 }

pub invariant_of-self-in-Ok-Some : goal.invariant_of-self-in-Ok-Some
invariant_of-self-in-Ok-Some g c =
    let lexer = c.args.self.now in
    let d = g.D.Dialect.meaning lexer.dialect.now in
    let next = found (token_of c.in-Ok-Some.token) (chars c.in-Ok-Some.after.now) in
    let first = some_first d (g.met.D.Dialect.laws lexer.dialect.now) (chars lexer.rest.now) (chars c.past_blanks-rest.result.now) next c.past_blanks-rest.ensures (rw c.in-Ok-Some.field-0-is at c.in-Ok-Some.ensures) in
    record { known = first.1 ∙ lexer.known; settled = refl }

pub returns-in-Ok-None : goal.returns-in-Ok-None
returns-in-Ok-None g c =
    let lexer = c.args.self.now in
    let d = g.D.Dialect.meaning lexer.dialect.now in
    let rest = chars c.past_blanks-rest.result.now in
    let first = none_first d (g.met.D.Dialect.laws lexer.dialect.now) (chars lexer.rest.now) rest c.past_blanks-rest.ensures (rw c.in-Ok-None.field-0-is at c.in-Ok-None.ensures) in
    sym (passes_one d lexer.sight (chars lexer.rest.now) c.if-is_none.ensures ∙ first.0)

pub returns-in-Ok-Some : goal.returns-in-Ok-Some
returns-in-Ok-Some g c =
    let lexer = c.args.self.now in
    let d = g.D.Dialect.meaning lexer.dialect.now in
    let next = found (token_of c.in-Ok-Some.token) (chars c.in-Ok-Some.after.now) in
    let first = some_first d (g.met.D.Dialect.laws lexer.dialect.now) (chars lexer.rest.now) (chars c.past_blanks-rest.result.now) next c.past_blanks-rest.ensures (rw c.in-Ok-Some.field-0-is at c.in-Ok-Some.ensures) in
    sym (passes_one d lexer.sight (chars lexer.rest.now) c.if-is_none.ensures ∙ first.0)
