use Rattle.std.proofs.Common.{option_and_then, sym, ap, ◌∙◌}
use Rattle.ic_machine.specs.Parsed.{row_if}
use Rattle.ic_parts.proofs.ReferenceLemmas.{row_read}
use Rattle.ic_parts.proofs.references.row_of.Goals as goal

pub returns-in-Some : goal.returns-in-Some
returns-in-Some c =
    c.row_if.ensures ∙ ap (option_and_then row_if) (sym c.in-Some.is ∙ c.ok.ensures.value) ∙ row_read c.args.text.now c.utf8.text c.parse.result c.parse.ensures.value.0

pub returns-in-None : goal.returns-in-None
returns-in-None c =
    ap (option_and_then row_if) (sym c.in-None.is ∙ c.ok.ensures.value) ∙ row_read c.args.text.now c.utf8.text c.parse.result c.parse.ensures.value.0
