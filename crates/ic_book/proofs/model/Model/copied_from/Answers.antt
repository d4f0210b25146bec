use Rattle.std.proofs.Common.{ap, ◌∙◌}
use Rattle.ic_machine.specs.Refusal.{InvalidSheet, first_refusal}
use Rattle.ic_sheets.specs.Sheet.{sheet_of}
use Rattle.ic_parts.specs.Extended.{cells_causes}
use Rattle.ic_parts.specs.Refused.{refusal_of}
use Rattle.ic_parts.proofs.ExtendLemmas.{sheets_stand, source_lacks, target_lacks}
use Rattle.ic_parts.proofs.GridLemmas.{told_again}
use Rattle.ic_book.proofs.model.Model.copied_from.Goals as goal

pub returns-in_err-id-clause-refused : goal.returns-in_err-id-clause-refused
returns-in_err-id-clause-refused c =
    told_again c.from_residual.result c.in_err-id.field-0.0 (first_refusal (cells_causes c.args.self.now.book c.args.source.now c.args.target.now)) c.from_residual.ensures
    (InvalidSheet, ap refusal_of c.in_err-id.ensures.1, source_lacks c.args.self.now c.args.source.now c.args.target.now c.in_err-id.ensures.0)

pub returns-in_err-sheet_at-clause-refused : goal.returns-in_err-sheet_at-clause-refused
returns-in_err-sheet_at-clause-refused c =
    told_again c.from_residual-in_err-sheet_at.result c.in_err-sheet_at.field-0.0 (first_refusal (cells_causes c.args.self.now.book c.args.source.now c.args.target.now)) c.from_residual-in_err-sheet_at.ensures
    (InvalidSheet, ap refusal_of c.in_err-sheet_at.ensures.1, target_lacks c.args.self.now c.args.source.now c.args.target.now (sheet_of c.in_ok-id.field-0.now) c.in_ok-id.ensures c.in_err-sheet_at.ensures.0)

pub returns-in_err-check_cells-clause-refused : goal.returns-in_err-check_cells-clause-refused
returns-in_err-check_cells-clause-refused c =
    told_again c.from_residual-in_err-check_cells.result c.in_err-check_cells.field-0.0 (first_refusal (cells_causes c.args.self.now.book c.args.source.now c.args.target.now)) c.from_residual-in_err-check_cells.ensures (
      c.in_err-check_cells.ensures.0,
      c.in_err-check_cells.ensures.1,
      sheets_stand c.args.self.now c.args.source.now c.args.target.now (sheet_of c.in_ok-id.field-0.now) c.in_ok-id.ensures (sheet_of c.in_ok-sheet_at.field-0.now) c.in_ok-sheet_at.ensures ∙ c.in_err-check_cells.ensures.2,
    )

pub returns-clause-refused : goal.returns-clause-refused
returns-clause-refused c =
    sheets_stand c.args.self.now c.args.source.now c.args.target.now (sheet_of c.in_ok-id.field-0.now) c.in_ok-id.ensures (sheet_of c.in_ok-sheet_at.field-0.now) c.in_ok-sheet_at.ensures ∙ c.in_ok-check_cells.ensures
