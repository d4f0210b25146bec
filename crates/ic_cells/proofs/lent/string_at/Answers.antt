use Rattle.std.proofs.Common.{◌∙◌, sym, ap, []}
use Rattle.std.proofs.lemmas.Option.{slice_get_past}
use Rattle.std.specs.Option.{unwrap_or}
use Rattle.ic_cells.proofs.Literals.{nothing}
use Rattle.ic_cells.proofs.lent.string_at.Goals as goal

pub returns-in-None : goal.returns-in-None
returns-in-None c =
    nothing ∙ sym (ap (λ o. unwrap_or o []) (slice_get_past c.args.strings.now c.args.place c.in-None.ensures.lookup.3))
