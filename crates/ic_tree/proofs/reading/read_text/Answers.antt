use Rattle.std.proofs.Common.{chars, ◌∙◌}
use Rattle.std.proofs.lemmas.Result.{IfOk-weaker}
use Rattle.ic_tree.proofs.LexLemmas.{read_by_tokens}
use Rattle.ic_tree.proofs.reading.read_text.Goals as goal

pub returns-in-Ok : goal.returns-in-Ok
returns-in-Ok g c =
    let d = g.D.Dialect.meaning c.args.d.now in
    IfOk-weaker c.read_tokens.result _ _ (λ r h. h ∙ read_by_tokens d (g.met.D.Dialect.laws c.args.d.now) (chars c.args.unread.now.text.now) g.K.TextEnd.whole _ c.requires c.in-Ok.ensures) c.read_tokens.ensures
