use Rattle.std.proofs.Common.{Some, is_some, ap, chars, refl, sym, ◌∙◌}
use Rattle.ic_tree.specs.Lexing.{found, tokens_before}
use Rattle.ic_tree.specs.Tokens.{token_of}
use Rattle.ic_tree.proofs.LexLemmas.{none_first, some_first}
use Rattle.ic_tree.proofs.SightLemmas.{settled_none, settled_so, takes_last, takes_more}
use Rattle.ic_tree.proofs.lexer.source.LexerTokenSource.next.Goals as goal

pub invariant_of-self : goal.invariant_of-self
invariant_of-self g c =
    let lexer = c.args.self.now in
    let d = g.D.Dialect.meaning lexer.dialect.now in
    record { known = lexer.known; settled = settled_so lexer.sight c.take-taken.new.self c.take-taken.result (tokens_before d (chars lexer.rest.now)) c.take-taken.ensures.value c.take-taken.ensures.after c.if-is_none.ensures lexer.settled }

pub invariant_of-self-in-Ok-None : goal.invariant_of-self-in-Ok-None
invariant_of-self-in-Ok-None g c =
    let lexer = c.args.self.now in
    let d = g.D.Dialect.meaning lexer.dialect.now in
    let rest = chars c.past_blanks-rest.result.now in
    let first = none_first d (g.met.D.Dialect.laws lexer.dialect.now) (chars lexer.rest.now) rest c.past_blanks-rest.ensures (rw c.in-Ok-None.field-0-is at c.in-Ok-None.ensures) in
    record { known = first.2 ∙ lexer.known; settled = settled_none c.take-taken.new.self (tokens_before d rest) c.take-taken.ensures.after first.1 }

pub invariant_of-self-in-Ok-Some : goal.invariant_of-self-in-Ok-Some
invariant_of-self-in-Ok-Some g c =
    let lexer = c.args.self.now in
    let d = g.D.Dialect.meaning lexer.dialect.now in
    let next = found (token_of c.in-Ok-Some.token) (chars c.in-Ok-Some.after.now) in
    let first = some_first d (g.met.D.Dialect.laws lexer.dialect.now) (chars lexer.rest.now) (chars c.past_blanks-rest.result.now) next c.past_blanks-rest.ensures (rw c.in-Ok-Some.field-0-is at c.in-Ok-Some.ensures) in
    record { known = first.1 ∙ lexer.known; settled = refl }

pub returns-in-Ok-None : goal.returns-in-Ok-None
returns-in-Ok-None g c =
    let lexer = c.args.self.now in
    let d = g.D.Dialect.meaning lexer.dialect.now in
    let rest = chars c.past_blanks-rest.result.now in
    let first = none_first d (g.met.D.Dialect.laws lexer.dialect.now) (chars lexer.rest.now) rest c.past_blanks-rest.ensures (rw c.in-Ok-None.field-0-is at c.in-Ok-None.ensures) in
    takes_last d lexer.sight c.take-taken.new.self c.take-taken.result (chars lexer.rest.now) rest c.take-taken.ensures.value c.take-taken.ensures.after first.0

pub returns-in-Ok-Some : goal.returns-in-Ok-Some
returns-in-Ok-Some g c =
    let lexer = c.args.self.now in
    let d = g.D.Dialect.meaning lexer.dialect.now in
    let next = found (token_of c.in-Ok-Some.token) (chars c.in-Ok-Some.after.now) in
    let first = some_first d (g.met.D.Dialect.laws lexer.dialect.now) (chars lexer.rest.now) (chars c.past_blanks-rest.result.now) next c.past_blanks-rest.ensures (rw c.in-Ok-Some.field-0-is at c.in-Ok-Some.ensures) in
    takes_more d lexer.sight (Some c.in-Ok-Some.token) c.take-taken.result c.in-Ok-Some.token (chars lexer.rest.now) (chars c.in-Ok-Some.after.now) c.take-taken.ensures.value refl
    (ap is_some (sym c.take-taken.ensures.value) ∙ c.if-is_none.ensures) first.0
