use Rattle.std.proofs.Common.{◌++◌, ◌∷◌, [], ◌∙◌, ap, sym}
use Rattle.ic_pool.proofs.ByteLaws.{number_short}
use Rattle.ic_pool.proofs.key.Key.push.Goals as goal

pub returns-then-number-lt128 : goal.returns-then-number-lt128
returns-then-number-lt128 c =
    c.in_ok-push.ensures.items ∙ ap (λ k. k ++ c.args.number ∷ []) c.self.view_is ∙ ap (λ k. c.args.self.now ++ k) (sym (number_short c.args.number c.if-number-lt128.true))
