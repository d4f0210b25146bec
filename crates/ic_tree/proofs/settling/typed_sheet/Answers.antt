use Rattle.std.proofs.Common.{Some, ap, sym, ◌∙◌}
use Rattle.std.proofs.lemmas.Str.{chars-nil}
use Rattle.ic_tree.specs.Typed.{typed_sheet}
use Rattle.ic_tree.proofs.settling.typed_sheet.Goals as goal

pub returns-in-Sheet : goal.returns-in-Sheet
returns-in-Sheet c = ap Some chars-nil ∙ sym (ap typed_sheet c.in-Sheet.is)
