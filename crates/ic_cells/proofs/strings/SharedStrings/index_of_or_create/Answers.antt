use Rattle.std.proofs.Common.{◌∙◌, ◌++◌, ◌∷◌, [], ap, sym, chars, bytes_eq, length}
use Rattle.std.proofs.lemmas.Slice.Eq.{bytes_eq-Decides}
use Rattle.ic_cells.specs.Strings.{string_place}
use Rattle.ic_cells.proofs.PlacedLemmas.{placed_found, placed_pushed}
use Rattle.ic_cells.proofs.TextLemmas.{known_push}
use Rattle.ic_cells.proofs.strings.SharedStrings.index_of_or_create.Goals as goal

pub returns-in-Some-clause-placed : goal.returns-in-Some-clause-placed
returns-in-Some-clause-placed c = placed_found bytes_eq bytes_eq-Decides (chars c.args.text.now) c.in-Some.at c.args.self.now (sym c.find.ensures ∙ c.in-Some.is)

-- where nothing is found the text is new
pub invariant_of-self-in-Ok : goal.invariant_of-self-in-Ok
invariant_of-self-in-Ok c =
    let list = c.self.inside.list in
    known_push c.self.inside.places c.put.new.self list c.push.new.self c.args.text.now c.len-at.result c.utf8.text c.self.invariant
    (ap (string_place (chars c.args.text.now)) c.self.view_is ∙ sym c.find.ensures ∙ c.in_default.is) c.len-at.ensures c.in-Ok.ensures.ok
    (c.in_ok-push.ensures.ok ∙ ap (λ t. list ++ t ∷ []) c.in_ok-copy.ensures)

pub returns-in-Ok-clause-placed : goal.returns-in-Ok-clause-placed
returns-in-Ok-clause-placed c =
    placed_pushed bytes_eq bytes_eq-Decides (chars c.args.text.now) _ c.args.self.now c.push.new.self (sym c.find.ensures ∙ c.in_default.is) (c.len-at.ensures ∙ ap length c.self.view_is)
    (c.in_ok-push.ensures.ok ∙ ap (λ t. c.self.inside.list ++ t ∷ []) c.in_ok-copy.ensures ∙ ap (λ xs. xs ++ chars c.args.text.now ∷ []) c.self.view_is)
