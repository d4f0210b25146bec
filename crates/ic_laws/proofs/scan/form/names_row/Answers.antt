use Rattle.std.proofs.Common.{chars}
use Rattle.ic_laws.proofs.FormLemmas.{row_stops}
use Rattle.ic_laws.proofs.scan.form.names_row.Goals as goal

pub returns-in_default-to_digit : goal.returns-in_default-to_digit
returns-in_default-to_digit c =
    row_stops c.loop-c.row c.in-Some.c (chars c.loop-c.rest.now) (chars c.in-Some.after.now) (chars c.args.digits.now) c.in-Some.ensures.parts (c.in_default-to_digit.ensures.value) c.loop-c.invariant.read
