use Rattle.std.proofs.Common.{chars, sym}
use Rattle.ic_audit.proofs.AskedLemmas.{of_sheet, other_kind}
use Rattle.ic_audit.proofs.asked.sheet_asked.Goals as goal

pub returns-then-not-same_text : goal.returns-then-not-same_text
returns-then-not-same_text c = other_kind (chars c.args.kind.now) (chars c.args.name.now) (sym c.if-not-same_text.ensures)

pub returns : goal.returns
returns c = of_sheet (chars c.args.kind.now) (chars c.args.name.now) (sym c.if-not-same_text.ensures)
