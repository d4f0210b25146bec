use Rattle.std.proofs.Common.{◌≡◌, ◌∙◌, ◌+ℤ◌, pos, true, false, ap, w8, w16, w32, FitsSigned, refl, arith}
use Rattle.std.proofs.lemmas.Int.{to_z-of_z, to_z_pos}
use mir.Val.{to_z}
use Rattle.jiff_core.specs.Calendar.{IsDate, days_from_civil}
use Rattle.jiff_core.proofs.SignedLemmas.{signed_arith}
use Rattle.ic_input.proofs.DateSteps.{date-of_day, day-of_date, day_found, no_day, past_day}
use Rattle.ic_input.proofs.date.day_of.Goals as goal

pub returns-then-month-gt12 : goal.returns-then-month-gt12
returns-then-month-gt12 c = no_day c.args.year c.args.month c.args.day (past_day c.args.year c.args.month c.args.day c.then-month-gt12.either)

pub returns-in-Ok : goal.returns-in-Ok
returns-in-Ok c =
    let y : to_z w16 c.args.year ≡ pos c.args.year = to_z_pos w16 c.args.year (omega arith) in
    let m : to_z w8 c.args.month ≡ pos c.args.month = to_z_pos w8 c.args.month (omega arith) in
    let d : to_z w8 c.args.day ≡ pos c.args.day = to_z_pos w8 c.args.day (omega arith) in
    let is = rw (y, m, d) at (c.in-Ok.ensures.succeeds.0 refl) in
    let parts = rw (y, m, d) at c.in-Ok.ensures.value in
    let month : c.in-Ok.date.month ≡ c.args.month = cc in
    let day : c.in-Ok.date.day ≡ c.args.day = cc in
    let number : c.to_unix_epoch_day.result ≡ days_from_civil (pos c.args.year) c.args.month c.args.day = rw (← parts.0, ← month, ← day) c.to_unix_epoch_day.ensures.value in
    let fits : FitsSigned w32 c.to_unix_epoch_day.result = omega (arith, signed_arith, c.to_unix_epoch_day.ensures.bound) in
    let sum : FitsSigned w32 (c.to_unix_epoch_day.result +ℤ pos 25569) = omega (arith, signed_arith, c.to_unix_epoch_day.ensures.bound) in
    let read = rw (to_z-of_z w32 c.to_unix_epoch_day.result fits, to_z-of_z w32 (c.to_unix_epoch_day.result +ℤ pos 25569) sum) at c.in_range.ensures in
    read ∙ day_found c.args.year c.args.month c.args.day _ (day-of_date c.args.year c.args.month c.args.day is) (ap (λ z. z +ℤ pos 25569) number)

pub returns-in-Err : goal.returns-in-Err
returns-in-Err c =
    let y : to_z w16 c.args.year ≡ pos c.args.year = to_z_pos w16 c.args.year (omega arith) in
    let m : to_z w8 c.args.month ≡ pos c.args.month = to_z_pos w8 c.args.month (omega arith) in
    let d : to_z w8 c.args.day ≡ pos c.args.day = to_z_pos w8 c.args.day (omega arith) in
    no_day c.args.year c.args.month c.args.day
    (λ e. let is : IsDate (to_z w16 c.args.year) (to_z w8 c.args.month) (to_z w8 c.args.day) = rw (y, m, d) (date-of_day c.args.year c.args.month c.args.day c.requires.year e) in
    let no : false ≡ true = c.in-Err.ensures.succeeds.1 is in cc)
