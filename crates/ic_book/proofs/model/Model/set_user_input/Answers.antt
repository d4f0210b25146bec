use Rattle.std.proofs.Common.{List, ℕ, chars, string_bytes, subst}
use Rattle.ic_laws.specs.CoreBook.{CellPlace}
use Rattle.ic_machine.specs.subjects.Writing.{SetUserInput, writing_step}
use Rattle.ic_parts.specs.Does.{DoesIn}
use Rattle.ic_parts.specs.Fields.{no_fields}
use Rattle.ic_parts.proofs.RetypedLemmas.{retyped_so}
use Rattle.ic_cells.proofs.MapLemmas.{stored_pair}
use Rattle.ic_book.proofs.model.Model.set_user_input.Goals as goal

pub returns-clause-does : goal.returns-clause-does
returns-clause-does c =
    subst (λ (b : List ℕ). DoesIn writing_step (SetUserInput c.args.sheet c.args.row c.args.column (chars b)) no_fields c.type_text.result c.args.self.now c.type_text.new.self)
    c.as_str.ensures.value
    (subst (λ (p : CellPlace). DoesIn writing_step (SetUserInput c.args.sheet p.0 p.1 (chars c.as_str.result.now)) no_fields c.type_text.result c.args.self.now c.type_text.new.self)
    (stored_pair c.args.row c.args.column c.ranges.row c.ranges.column) c.type_text.ensures.does)

pub returns-clause-retyped : goal.returns-clause-retyped
returns-clause-retyped c = retyped_so c.args.sheet c.args.row c.args.column (chars (string_bytes c.args.value)) c.args.self.now c.type_text.new.self c.type_text.result (returns-clause-does c)
