use Rattle.std.proofs.Common.{◌≡◌, ℕ, List, Some, ap, ap₂, chars, option_map, sym, ◌∙◌}
use Rattle.std.proofs.lemmas.Result.{IfOk-weaker}
use Rattle.ic_laws.specs.Split.{longer}
use Rattle.ic_laws.specs.Token as tokens
use Rattle.ic_laws.specs.TokenKinds.{local_at, reference_at}
use Rattle.ic_laws.specs.declared.reference.RefToken.{RefToken}
use Rattle.ic_tree.specs.Lexing.{found, named_at}
use Rattle.ic_tree.specs.Tokens.{token_of}
use Rattle.ic_tree.proofs.FirstLemmas.{reference_ends}
use Rattle.ic_tree.proofs.LocalFirst.{local_ends, local_over_named, without_local}
use Rattle.ic_tree.proofs.lexer.next.any_named_token.Goals as goal

pub reference_or_named-requires-clause-ends : goal.reference_or_named-requires-clause-ends
reference_or_named-requires-clause-ends g c =
    reference_ends (g.D.Dialect.meaning c.args.d.now) (g.met.D.Dialect.laws c.args.d.now) (chars c.args.text.now) (chars c.in-Ok-Some.rest.now) c.in-Ok-Some.reference (rw c.in-Ok-Some.field-0-is at c.in-Ok-Some.ensures)

pub longer_than_reference-requires-clause-reference_ends : goal.longer_than_reference-requires-clause-reference_ends
longer_than_reference-requires-clause-reference_ends g c =
    reference_ends (g.D.Dialect.meaning c.args.d.now) (g.met.D.Dialect.laws c.args.d.now) (chars c.args.text.now) (chars c.in-Ok-Some.rest.now) c.in-Ok-Some.reference (rw c.in-Ok-Some.field-0-is at c.in-Ok-Some.ensures)

pub longer_than_reference-requires-clause-other_ends : goal.longer_than_reference-requires-clause-other_ends
longer_than_reference-requires-clause-other_ends g c =
    local_ends (g.D.Dialect.meaning c.args.d.now) (chars c.args.text.now) (found (token_of c.in-Ok-Some-longer_local_at.token) (chars c.in-Ok-Some-longer_local_at.end.now)) (rw c.in-Ok-Some-longer_local_at.field-0-is at c.in-Ok-Some-longer_local_at.ensures)

pub returns-in-Ok-Some-longer_local_at : goal.returns-in-Ok-Some-longer_local_at
returns-in-Ok-Some-longer_local_at g c =
    let d = g.D.Dialect.meaning c.args.d.now in
    let text = chars c.args.text.now in
    let reference : Some (found (tokens.Ref c.in-Ok-Some.reference) (chars c.in-Ok-Some.rest.now)) ≡ reference_at d text =
    ap (option_map (λ (f : RefToken × List ℕ). found (tokens.Ref f.0) f.1)) (rw c.in-Ok-Some.field-0-is at c.in-Ok-Some.ensures) in
    let local : longer (local_at text) (named_at d text) ≡ Some (found (token_of c.in-Ok-Some-longer_local_at.token) (chars c.in-Ok-Some-longer_local_at.end.now)) =
    local_over_named d (g.met.D.Dialect.laws c.args.d.now) text (found (token_of c.in-Ok-Some-longer_local_at.token) (chars c.in-Ok-Some-longer_local_at.end.now))
    (rw c.in-Ok-Some-longer_local_at.field-0-is at c.in-Ok-Some-longer_local_at.ensures) in
    let all = ap₂ longer reference (sym local) in
    IfOk-weaker c.longer_than_reference.result _ _ (λ r h. h ∙ all) c.longer_than_reference.ensures

pub returns-in-Ok-None-longer_local_at : goal.returns-in-Ok-None-longer_local_at
returns-in-Ok-None-longer_local_at g c =
    let d = g.D.Dialect.meaning c.args.d.now in
    let text = chars c.args.text.now in
    let f = found (tokens.Ref c.in-Ok-Some.reference) (chars c.in-Ok-Some.rest.now) in
    let reference : Some f ≡ reference_at d text = ap (option_map (λ (f : RefToken × List ℕ). found (tokens.Ref f.0) f.1)) (rw c.in-Ok-Some.field-0-is at c.in-Ok-Some.ensures) in
    let past = without_local d (g.met.D.Dialect.laws c.args.d.now) text f (rw c.in-Ok-None-longer_local_at.field-0-is at c.in-Ok-None-longer_local_at.ensures) in
    IfOk-weaker c.reference_or_named.result _ _ (λ r h. h ∙ past ∙ ap (λ l. longer l (longer (local_at text) (named_at d text))) reference) c.reference_or_named.ensures
