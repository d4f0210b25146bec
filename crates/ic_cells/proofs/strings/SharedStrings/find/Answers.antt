use Rattle.std.proofs.Common.{◌∙◌, ap, chars}
use Rattle.ic_cells.specs.Strings.{string_place}
use Rattle.ic_cells.specs.TextPlaces.{text_found}
use Rattle.ic_cells.proofs.TextLemmas.{found}
use Rattle.ic_cells.proofs.strings.SharedStrings.find.Goals as goal

pub returns : goal.returns
returns c =
    c.find.ensures ∙ ap (λ xs. text_found c.self.inside.places xs c.args.text.now) c.as_slice.ensures
    ∙ found c.self.inside.places c.self.inside.list c.args.text.now c.utf8.text c.self.invariant
    ∙ ap (string_place (chars c.args.text.now)) c.self.view_is
