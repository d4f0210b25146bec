use Rattle.std.proofs.Common.{None, chars, sym, ◌∙◌, refl}
use Rattle.ic_tree.specs.Lexing.{found, tokens_before}
use Rattle.ic_tree.specs.Tokens.{token_of}
use Rattle.ic_tree.proofs.LexLemmas.{none_first, some_first}
use Rattle.ic_tree.proofs.SightLemmas.{settled_none}
use Rattle.ic_tree.proofs.lexer.source.Lexer.new.Goals as goal

pub invariant_of-result : goal.invariant_of-result
invariant_of-result g c =
    let d = g.D.Dialect.meaning c.args.dialect.now in
    let rest = chars c.past_blanks-rest.result.now in
    let first = none_first d (g.met.D.Dialect.laws c.args.dialect.now) (chars c.args.text.now) rest c.past_blanks-rest.ensures (rw c.in-Ok-None.field-0-is at c.in-Ok-None.ensures) in
    record { known = first.2 ∙ sym c.requires; settled = settled_none None (tokens_before d rest) refl first.1 }

pub invariant_of-result-in-Ok-Some : goal.invariant_of-result-in-Ok-Some
invariant_of-result-in-Ok-Some g c =
    let d = g.D.Dialect.meaning c.args.dialect.now in
    let next = found (token_of c.in-Ok-Some.token) (chars c.in-Ok-Some.after.now) in
    let first = some_first d (g.met.D.Dialect.laws c.args.dialect.now) (chars c.args.text.now) (chars c.past_blanks-rest.result.now) next c.past_blanks-rest.ensures (rw c.in-Ok-Some.field-0-is at c.in-Ok-Some.ensures) in
    record { known = first.1 ∙ sym c.requires; settled = refl }

pub returns-in-Ok-None : goal.returns-in-Ok-None
returns-in-Ok-None g c =
    let d = g.D.Dialect.meaning c.args.dialect.now in
    let first = none_first d (g.met.D.Dialect.laws c.args.dialect.now) (chars c.args.text.now) (chars c.past_blanks-rest.result.now) c.past_blanks-rest.ensures (rw c.in-Ok-None.field-0-is at c.in-Ok-None.ensures) in
    sym first.0

pub returns-in-Ok-Some : goal.returns-in-Ok-Some
returns-in-Ok-Some g c =
    let d = g.D.Dialect.meaning c.args.dialect.now in
    let next = found (token_of c.in-Ok-Some.token) (chars c.in-Ok-Some.after.now) in
    let first = some_first d (g.met.D.Dialect.laws c.args.dialect.now) (chars c.args.text.now) (chars c.past_blanks-rest.result.now) next c.past_blanks-rest.ensures (rw c.in-Ok-Some.field-0-is at c.in-Ok-Some.ensures) in
    sym first.0
