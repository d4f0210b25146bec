use Rattle.std.proofs.Common.{ap, chars, sym, ◌∙◌, Some, None, List, ℕ}
use Rattle.ic_laws.specs.Token.{Token, Err}
use Rattle.ic_tree.proofs.CutLemmas.{error_word_found}
use Rattle.ic_tree.proofs.lexer.errors.error_at.Goals as goal

pub past_bytes-requires : goal.past_bytes-requires
past_bytes-requires g c = (error_word_found (g.D.Dialect.meaning c.args.d.now) (g.met.D.Dialect.laws c.args.d.now) c.args.text.now (Some (c.in-Some.error, c.in-Some.size)) c.utf8.text c.in-Some.ensures).0

pub returns-in-Some : goal.returns-in-Some
returns-in-Some g c =
    let has = error_word_found (g.D.Dialect.meaning c.args.d.now) (g.met.D.Dialect.laws c.args.d.now) c.args.text.now (Some (c.in-Some.error, c.in-Some.size)) c.utf8.text c.in-Some.ensures in
    ap (λ b. let f : Token × List ℕ = (Err c.in-Some.error, chars b) in Some f) c.past_bytes.ensures ∙ sym has.1

pub returns-in-None : goal.returns-in-None
returns-in-None g c = sym (error_word_found (g.D.Dialect.meaning c.args.d.now) (g.met.D.Dialect.laws c.args.d.now) c.args.text.now None c.utf8.text c.in-None.ensures)
