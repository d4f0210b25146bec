use Rattle.std.proofs.Common.{◌++◌, ◌/◌, sym, ap, ◌∙◌, append_assoc}
use Rattle.ic_pool.specs.Bytes.{number_bytes}
use Rattle.ic_pool.proofs.ByteLaws.{number_long, number_short}
use Rattle.ic_pool.proofs.key.Key.push_long.Goals as goal

pub loop-rest-init : goal.loop-rest-init
loop-rest-init c = ap (λ k. k ++ number_bytes c.args.number) c.self.view_is

pub loop-rest-preserved : goal.loop-rest-preserved
loop-rest-preserved c =
    let before = c.loop-rest.self-inside.bytes.items in
    let rest = c.loop-rest.rest in
    ap (λ k. k ++ number_bytes (rest / 128)) c.in_ok-push.ensures.items ∙ append_assoc before _ _
    ∙ ap (λ k. before ++ k) (sym (number_long rest c.loop-rest-test.true)) ∙ c.loop-rest.invariant

pub returns : goal.returns
returns c =
    let before = c.loop-rest.self-inside.bytes.items in
    let rest = c.loop-rest.rest in
    c.in_ok-push-2.ensures.items ∙ ap (λ k. before ++ k) (sym (number_short rest c.loop-rest-test.false)) ∙ c.loop-rest.invariant
