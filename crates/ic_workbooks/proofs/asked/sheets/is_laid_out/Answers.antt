use Rattle.std.proofs.Common.{◌≡◌, ◌∙◌, false, true, sym}
use Rattle.ic_workbooks.proofs.asked.sheets.is_laid_out.Goals as goal

pub returns-then-is_frozen : goal.returns-then-is_frozen
returns-then-is_frozen c = (
  λ e. record { frozen = c.is_frozen.ensures.0 c.if-is_frozen.true; lines = c.has_lines_in_sheet.ensures.0 e },
  λ h. c.has_lines_in_sheet.ensures.1 h.lines,
)

pub returns-else-is_frozen : goal.returns-else-is_frozen
returns-else-is_frozen c = (
  λ e. let no : false ≡ true = sym c.if-is_frozen.false ∙ e in cc,
  λ h. c.is_frozen.ensures.1 h.frozen,
)
