use Rattle.std.proofs.Common.{chars, sym, ◌∙◌}
use Rattle.std.proofs.lemmas.Result.{IfOk-weaker}
use Rattle.ic_laws.specs.Token as tokens
use Rattle.ic_tree.specs.Lexing.{found, seen_token}
use Rattle.ic_tree.proofs.FirstLemmas.{named_ends, reference_over_word}
use Rattle.ic_tree.proofs.lexer.next.reference_or_named.Goals as goal

pub longer_of-requires-clause-other_ends : goal.longer_of-requires-clause-other_ends
longer_of-requires-clause-other_ends g c =
    named_ends (g.D.Dialect.meaning c.args.d.now) (g.met.D.Dialect.laws c.args.d.now) (chars c.args.text.now) (found (seen_token c.in-Some.seen) (chars c.in-Some.end.now)) c.in-Some.ensures

pub returns-then-is_past_word : goal.returns-then-is_past_word
returns-then-is_past_word g c =
    let all = reference_over_word (g.D.Dialect.meaning c.args.d.now) (g.met.D.Dialect.laws c.args.d.now) (chars c.args.text.now) c.requires.begins.0 c.args.c (found (tokens.Ref c.args.reference) (chars c.args.rest.now))
    c.requires.begins.1 (sym c.if-begins_word.ensures) (sym c.if-is_past_word.ensures) in
    IfOk-weaker c.reference_with.result _ _ (λ r h. h ∙ sym all) c.reference_with.ensures
