use Rattle.std.proofs.Common.{◌≡◌, ◌∙◌, ◌<◌, get_or, length, refl, subst, true}
use Rattle.std.proofs.lemmas.Str.{IsCharBoundary-start}
use Rattle.ic_laws.proofs.ByteRuns.{run_goes_on}
use Rattle.ic_input.specs.Number.{stands_before}
use Rattle.ic_input.proofs.number.past_other.Goals as goal

pub loop-at-init : goal.loop-at-init
loop-at-init c = (IsCharBoundary-start c.args.text.now c.utf8.text, refl)

pub loop-at-preserved : goal.loop-at-preserved
loop-at-preserved c =
    let same = c.as_bytes-bytes.ensures.value in
    let more = run_goes_on (stands_before c.args.decimal) c.args.text.now c.loop-at.at c.utf8.text c.loop-at.invariant.0
    (subst (λ bytes. c.loop-at.at < length bytes) same c.loop-at-test.true)
    (subst (λ bytes. get_or bytes c.loop-at.at 0 < 128) same (c.if-is_other_byte.ensures.ascii refl))
    (subst (λ bytes. stands_before c.args.decimal (get_or bytes c.loop-at.at 0) ≡ true) same (c.if-is_other_byte.ensures.other refl)) in
    (more.0, more.1 ∙ c.loop-at.invariant.1)
