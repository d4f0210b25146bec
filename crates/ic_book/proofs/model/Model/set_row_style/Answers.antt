use Rattle.std.proofs.Common.{subst, w32}
use Rattle.std.proofs.lemmas.Int.{to_z-of_z}
use Rattle.ic_machine.specs.subjects.Styles.{set_row_step}
use Rattle.ic_parts.specs.Does.{DoesStep, Wanted}
use Rattle.ic_parts.specs.Fields.{no_fields}
use Rattle.ic_parts.specs.Styled.{set_line_step}
use Rattle.ic_parts.specs.Whole.{whole_of}
use Rattle.ic_parts.specs.declared.styled.Line.TheVariants as lines
use Rattle.ic_book.proofs.model.Model.set_row_style.Goals as goal

pub returns-clause-does : goal.returns-clause-does
unfolding set_row_step
returns-clause-does c =
    subst (λ n. DoesStep Wanted (set_line_step c.args.sheet (lines.Row n) c.args.style.now (whole_of c.args.self.now.book)) no_fields c.give_style.result c.args.self.now c.give_style.new.self) (to_z-of_z w32 c.args.row c.ranges.row)
    c.give_style.ensures.does
