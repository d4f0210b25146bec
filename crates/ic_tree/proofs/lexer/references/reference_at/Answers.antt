use Rattle.std.proofs.Common.{ap, chars, sym, ◌∙◌, Some, None, List, ℕ}
use Rattle.ic_laws.specs.declared.reference.RefToken.{RefToken}
use Rattle.ic_tree.proofs.CutLemmas.{reference_found}
use Rattle.ic_tree.proofs.lexer.references.reference_at.Goals as goal

pub past_bytes-requires : goal.past_bytes-requires
past_bytes-requires g c = (reference_found (g.D.Dialect.meaning c.args.d.now) (g.met.D.Dialect.laws c.args.d.now) c.args.text.now (Some (c.in-Ok-Some.reference, c.in-Ok-Some.size)) c.utf8.text (rw c.in-Ok-Some.field-0-is at c.in-Ok-Some.ensures)).0

pub returns-in-Ok-Some : goal.returns-in-Ok-Some
returns-in-Ok-Some g c =
    let has = reference_found (g.D.Dialect.meaning c.args.d.now) (g.met.D.Dialect.laws c.args.d.now) c.args.text.now (Some (c.in-Ok-Some.reference, c.in-Ok-Some.size)) c.utf8.text (rw c.in-Ok-Some.field-0-is at c.in-Ok-Some.ensures) in
    ap (λ b. let f : RefToken × List ℕ = (c.in-Ok-Some.reference, chars b) in Some f) c.past_bytes.ensures ∙ sym has.1

pub returns-in-Ok-None : goal.returns-in-Ok-None
returns-in-Ok-None g c = sym (reference_found (g.D.Dialect.meaning c.args.d.now) (g.met.D.Dialect.laws c.args.d.now) c.args.text.now None c.utf8.text (rw c.in-Ok-None.field-0-is at c.in-Ok-None.ensures))
