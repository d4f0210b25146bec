use Rattle.std.proofs.Common.{Option, ap, sym, ◌∙◌}
use Rattle.std.specs.Borrow.{Bor}
use Rattle.std.specs.Option.{option_copied}
use Rattle.std.specs.Str.{chars}
use Rattle.ic_cells.specs.declared.cell.Cell.{Cell}
use Rattle.ic_parts.specs.Extended.{value_text}
use Rattle.ic_parts.proofs.extend.text_in.Goals as goal

pub returns-in-None : goal.returns-in-None
unfolding chars
returns-in-None c =
    ap chars c.new.ensures.bytes ∙ ap (λ (o : Option (Bor Cell)). value_text c.args.strings.now c.args.locale.now c.args.language.now (option_copied o)) (sym c.in-None.is)
