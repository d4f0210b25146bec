use Rattle.std.proofs.Common.{◌++◌, ◌∷◌, [], ◌+◌, ◌-◌, ◌∙◌, ap, arith}
use Rattle.ic_dump.proofs.StageLemmas.{deleting_next}
use Rattle.ic_dump.proofs.stages.push_deleting.Goals as goal

pub loop-gone-preserved : goal.loop-gone-preserved
loop-gone-preserved c =
    let own = c.args.own in
    let count = c.args.count in
    let gone = c.loop-gone.gone in
    deleting_next own count gone (count - gone - 1) (count - own - gone) (count - own - (gone + 1)) c.loop-gone.lines.items c.push.new.self.items _ (omega arith) (omega arith) c.loop-gone.invariant
    (c.in_ok-push.ensures.items ∙ ap (λ line. c.loop-gone.lines.items ++ line ∷ []) c.in_ok-deleting_line.ensures)
