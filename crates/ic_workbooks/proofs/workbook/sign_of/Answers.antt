use Rattle.std.proofs.Common.{ap, sym}
use Rattle.std.specs.Str.{chars}
use Rattle.ic_workbooks.specs.Workbook.{sign_of}
use Rattle.ic_workbooks.proofs.workbook.sign_of.Goals as goal

pub returns-then-has_equals : goal.returns-then-has_equals
unfolding chars
returns-then-has_equals c = sym (ap sign_of c.if-has_equals.true)

pub returns-else-has_equals : goal.returns-else-has_equals
unfolding chars
returns-else-has_equals c = sym (ap sign_of c.if-has_equals.false)
