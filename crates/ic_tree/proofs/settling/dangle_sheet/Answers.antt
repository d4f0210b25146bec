use Rattle.std.proofs.Common.{ap, sym, ◌∙◌}
use Rattle.std.proofs.lemmas.Str.{chars-nil}
use Rattle.ic_laws.specs.declared.tree.SheetMention.{SheetMention}
use Rattle.ic_laws.specs.declared.tree.SheetMention.TheVariants as sheets
use Rattle.ic_tree.specs.Typed.{dangling_sheet, typed_sheet}
use Rattle.ic_tree.proofs.settling.dangle_sheet.Goals as goal

pub returns-in_ok-from_str : goal.returns-in_ok-from_str
returns-in_ok-from_str c = ap sheets.Dangling (c.in_ok-from_str.ensures ∙ chars-nil) ∙ sym (ap (λ (s : SheetMention). dangling_sheet (typed_sheet s)) c.in-Sheet.is)
