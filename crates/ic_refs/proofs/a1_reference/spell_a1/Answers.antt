use Rattle.std.proofs.Common.{w32}
use Rattle.std.proofs.lemmas.Int.{to_z-of_z}
use Rattle.std.proofs.lemmas.Result.{IfOk-weaker}
use Rattle.std.proofs.lemmas.Bool.{and_parts}
use Rattle.ic_laws.specs.Tree.{is_written_sheet}
use Rattle.ic_refs.specs.A1.{is_spellable}
use Rattle.ic_refs.proofs.A1ReferenceLemmas.{spelled_string}
use Rattle.ic_laws.proofs.tokens.SheetTexts.{sheet_named}
use Rattle.ic_refs.proofs.a1_reference.spell_a1.Goals as goal

pub returns-clause-again : goal.returns-clause-again
returns-clause-again c =
    λ spellable. IfOk-weaker c.spell_in_cell.result _ _
    (λ text e. spelled_string c.args.row c.args.column _ _ c.args.r.now text (to_z-of_z w32 c.args.row c.ranges.row) (to_z-of_z w32 c.args.column c.ranges.column) e
    (sheet_named c.args.r.now.sheet (and_parts (is_spellable c.args.row c.args.column c.args.r.now) (is_written_sheet c.args.r.now.sheet) spellable).1))
    c.spell_in_cell.ensures
