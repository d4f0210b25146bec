use Rattle.std.proofs.Common.{◌≡◌, ◌-◌, false, refl, true, arith}
use Rattle.ic_sheets.proofs.SortLemmas.{all_rise, strictly}
use Rattle.ic_sheets.proofs.sheets.spots.do_rise.Goals as goal

pub returns-then-spots-place : goal.returns-then-spots-place
returns-then-spots-place c = (
  λ e. let no : false ≡ true = e in cc,
  λ r.
      let less = strictly c.args.spots.now 0 (c.loop-place.place - 1) c.loop-place.place (record { id = 0; index = 0 }) r (omega (arith, c.loop-place.auto.place)) c.loop-place-test.true in
      absurd (omega (arith, less, c.if-spots-place.true)),
)

pub returns : goal.returns
returns c = (λ e. all_rise c.args.spots.now 0 (λ k d lt. c.loop-place.invariant k d (omega (arith, lt, c.loop-place-test.false))) (λ d some. omega arith), λ r. refl)
