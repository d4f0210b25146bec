use Rattle.std.proofs.Common.{◌≡◌, ◌∙◌, false, true, sym}
use Rattle.ic_workbooks.proofs.asked.sheets.is_frozen.Goals as goal

pub returns-then-rows : goal.returns-then-rows
returns-then-rows c = (
  λ e.
      let rows = c.is_count_below-rows.ensures.0 c.if-rows.true in
      let columns = c.is_count_below-columns.ensures.0 e in
      record { some_rows = rows.some; few_rows = rows.few; some_columns = columns.some; few_columns = columns.few },
  λ h. c.is_count_below-columns.ensures.1 (record { some = h.some_columns; few = h.few_columns }),
)

pub returns-else-rows : goal.returns-else-rows
returns-else-rows c = (
  λ e. let no : false ≡ true = sym c.if-rows.false ∙ e in cc,
  λ h. c.is_count_below-rows.ensures.1 (record { some = h.some_rows; few = h.few_rows }),
)
