use Rattle.std.proofs.Common.{◌∙◌, ◌-ℤ◌, pos, ap, w16, w64, FitsSigned, arith}
use Rattle.std.proofs.lemmas.Int.{to_z-of_z}
use mir.Val.{to_z, of_z}
use Rattle.jiff_core.proofs.DateLemmas.{civil}
use Rattle.jiff_core.proofs.SignedLemmas.{signed_arith}
use Rattle.ic_input.proofs.FormatLemmas.{numbered, year_fits}
use Rattle.ic_input.proofs.date.civil_of.Goals as goal

pub overflow_cast-result : goal.overflow_cast-result
overflow_cast-result c =
    let d = c.unwrap-date.result in
    let fits : FitsSigned w16 c.unwrap-date.result.year = omega (arith, signed_arith, c.unwrap-date.result.year_in) in
    let same = to_z-of_z w16 c.unwrap-date.result.year fits in
    let n : FitsSigned w64 c.from.result = omega (arith, signed_arith, c.from.ensures) in
    let m : FitsSigned w64 (c.from.result -ℤ pos 25569) = omega (arith, signed_arith, c.from.ensures) in
    let w = rw c.unwrap-date.ensures at c.from_unix_epoch_day.ensures.value in
    let number = w ∙ ap (λ z. to_z w64 (of_z w64 (z -ℤ pos 25569))) (to_z-of_z w64 c.from.result n) ∙ to_z-of_z w64 (c.from.result -ℤ pos 25569) m ∙ ap (λ z. z -ℤ pos 25569) c.from.ensures in
    rw same (year_fits d.year (numbered d.year d.month d.day c.args.n (civil d) number c.requires.first c.requires.last).year d.year_in)

pub returns-clause-day : goal.returns-clause-day
returns-clause-day c =
    let d = c.unwrap-date.result in
    let fits : FitsSigned w16 c.unwrap-date.result.year = omega (arith, signed_arith, c.unwrap-date.result.year_in) in
    let same = to_z-of_z w16 c.unwrap-date.result.year fits in
    let n : FitsSigned w64 c.from.result = omega (arith, signed_arith, c.from.ensures) in
    let m : FitsSigned w64 (c.from.result -ℤ pos 25569) = omega (arith, signed_arith, c.from.ensures) in
    let w = rw c.unwrap-date.ensures at c.from_unix_epoch_day.ensures.value in
    let number = w ∙ ap (λ z. to_z w64 (of_z w64 (z -ℤ pos 25569))) (to_z-of_z w64 c.from.result n) ∙ to_z-of_z w64 (c.from.result -ℤ pos 25569) m ∙ ap (λ z. z -ℤ pos 25569) c.from.ensures in
    rw (same, c.from-2.ensures, c.from-3.ensures) (numbered d.year d.month d.day c.args.n (civil d) number c.requires.first c.requires.last).day
