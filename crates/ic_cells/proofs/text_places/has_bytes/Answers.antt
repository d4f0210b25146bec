use Rattle.std.proofs.Common.{◌≡◌, ◌∙◌, List, ℕ, Some, ap, sym}
use Rattle.std.proofs.lemmas.Option.{slice_get-get_or}
use Rattle.std.specs.List.{slice_get}
use Rattle.ic_cells.specs.TextPlaces.{has_bytes}
use Rattle.ic_cells.proofs.TextLemmas.{same_text}
use Rattle.ic_cells.proofs.text_places.has_bytes.Goals as goal

pub returns-in-Some : goal.returns-in-Some
returns-in-Some c =
    let there : slice_get c.args.texts.now c.args.at ≡ Some c.in-Some.other.now =
    slice_get-get_or c.args.texts.now c.args.at c.in-Some.other.now c.in-Some.ensures.lookup.3.0 ∙ ap (λ (x : List ℕ). Some x) (sym c.in-Some.ensures.lookup.1) in
    c.is.ensures ∙ same_text c.args.text.now c.in-Some.other.now c.utf8.text ∙ ap (has_bytes c.args.text.now) (sym there)
