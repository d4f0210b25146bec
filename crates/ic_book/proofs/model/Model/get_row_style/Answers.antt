use Rattle.std.proofs.Common.{subst, w32}
use Rattle.std.proofs.lemmas.Int.{to_z-of_z}
use Rattle.ic_machine.specs.Fields.{optional_style_fields}
use Rattle.ic_machine.specs.subjects.Styles.{row_style_step}
use Rattle.ic_parts.specs.Does.{DoesStep, Wanted}
use Rattle.ic_parts.specs.Styled.{line_style_step}
use Rattle.ic_parts.specs.Whole.{whole_of}
use Rattle.ic_parts.specs.declared.styled.Line.TheVariants as lines
use Rattle.ic_book.proofs.model.Model.get_row_style.Goals as goal

pub returns : goal.returns
unfolding row_style_step
returns c = record {
  does =
      subst (λ n. DoesStep Wanted (line_style_step c.args.sheet (lines.Row n) (whole_of c.args.self.now.book)) optional_style_fields c.style_set_for.result c.args.self.now c.args.self.now) (to_z-of_z w32 c.args.row c.ranges.row)
      c.style_set_for.ensures.does;
}
