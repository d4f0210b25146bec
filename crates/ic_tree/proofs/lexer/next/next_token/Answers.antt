use Rattle.std.proofs.Common.{◌≡◌, ◌∷◌, Some, chars, sym, ap, ◌∙◌}
use Rattle.std.proofs.lemmas.Result.{IfOk-weaker}
use Rattle.ic_laws.specs.AmountFront.{number_in_one_pass}
use Rattle.ic_laws.specs.Split.{longer, or_else}
use Rattle.ic_laws.specs.Token as tokens
use Rattle.ic_laws.specs.TokenKinds.{error_at, local_at, reference_at, token_by_kinds}
use Rattle.ic_tree.specs.Lexing.{found, named_at}
use Rattle.ic_tree.proofs.FirstLemmas.{decimal_kinds, hash_kinds, named_kinds, nothing_there, quote_kinds, sign_kinds}
use Rattle.ic_tree.proofs.lexer.next.next_token.Goals as goal

pub returns-in_default : goal.returns-in_default
returns-in_default g c =
    let d = g.D.Dialect.meaning c.args.d.now in
    sym (ap (token_by_kinds d) c.in_default.ensures.parts ∙ nothing_there d (g.met.D.Dialect.laws c.args.d.now))

pub returns-then-c-eq34 : goal.returns-then-c-eq34
returns-then-c-eq34 g c =
    let d = g.D.Dialect.meaning c.args.d.now in
    let text = c.in-Some.ensures.parts ∙ ap (λ x. x ∷ chars c.in-Some.after.now) c.if-c-eq34.true in
    let all = ap (token_by_kinds d) text ∙ quote_kinds d (g.met.D.Dialect.laws c.args.d.now) (chars c.in-Some.after.now) in
    IfOk-weaker c.quoted_token.result _ _ (λ r h. h ∙ sym all) c.quoted_token.ensures

pub returns-then-c-eq35 : goal.returns-then-c-eq35
returns-then-c-eq35 g c =
    let d = g.D.Dialect.meaning c.args.d.now in
    let text : chars c.args.text.now ≡ 35 ∷ chars c.in-Some.after.now = c.in-Some.ensures.parts ∙ ap (λ x. x ∷ chars c.in-Some.after.now) c.if-c-eq35.true in
    c.error_or_hash.ensures ∙ ap (λ t. or_else (error_at d t) (Some (found tokens.Hash (chars c.in-Some.after.now)))) text
    ∙ sym (ap (token_by_kinds d) text ∙ hash_kinds d (g.met.D.Dialect.laws c.args.d.now) (chars c.in-Some.after.now))

pub returns-then-begins_name : goal.returns-then-begins_name
returns-then-begins_name g c =
    let d = g.D.Dialect.meaning c.args.d.now in
    let text : chars c.args.text.now ≡ c.in-Some.c ∷ chars c.in-Some.after.now = c.in-Some.ensures.parts in
    let all = ap (token_by_kinds d) text ∙ named_kinds d (g.met.D.Dialect.laws c.args.d.now) c.in-Some.c (chars c.in-Some.after.now) (sym c.if-begins_name.ensures)
    ∙ sym (ap (λ t. longer (reference_at d t) (longer (local_at t) (named_at d t))) text) in
    IfOk-weaker c.named_token.result _ _ (λ r h. h ∙ sym all) c.named_token.ensures

pub returns-then-c-decimal : goal.returns-then-c-decimal
returns-then-c-decimal g c =
    let d = g.D.Dialect.meaning c.args.d.now in
    let text : chars c.args.text.now ≡ c.in-Some.c ∷ chars c.in-Some.after.now = c.in-Some.ensures.parts in
    let all = ap (token_by_kinds d) text ∙ decimal_kinds d (g.met.D.Dialect.laws c.args.d.now) c.in-Some.c (chars c.in-Some.after.now) (c.if-c-decimal.true ∙ c.decimal.ensures)
    ∙ sym (ap (number_in_one_pass d) text) in
    IfOk-weaker c.decimal_token.result _ _ (λ r h. h ∙ sym all) c.decimal_token.ensures

pub returns-else-c-decimal : goal.returns-else-c-decimal
returns-else-c-decimal g c =
    let d = g.D.Dialect.meaning c.args.d.now in
    let text : chars c.args.text.now ≡ c.in-Some.c ∷ chars c.in-Some.after.now = c.in-Some.ensures.parts in
    c.sign_at.ensures ∙ sym (ap (token_by_kinds d) text ∙ sign_kinds d (g.met.D.Dialect.laws c.args.d.now) c.in-Some.c (chars c.in-Some.after.now) (sym c.if-begins_name.ensures) (λ e. c.if-c-decimal.false (e ∙ sym c.decimal.ensures)) c.if-c-eq34.false c.if-c-eq35.false)
