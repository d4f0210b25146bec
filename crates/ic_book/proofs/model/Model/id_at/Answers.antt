use Rattle.std.proofs.Common.{ap, option_map, sym, ◌∙◌}
use Rattle.std.proofs.lemmas.Option.{slice_get-map}
use Rattle.std.specs.List.{slice_get}
use Rattle.ic_sheets.specs.Sheet.{Sheet, sheet_of}
use Rattle.ic_parts.specs.Book.{ModelState}
use Rattle.ic_book.proofs.model.Model.id_at.Goals as goal

pub returns : goal.returns
returns c =
    let at = sym c.get.ensures ∙ ap (option_map (λ s. s.now)) c.in_ok-found.was in
    sym (ap (option_map (λ (s : Sheet). s.id)) (slice_get-map sheet_of c.self.inside.contents.sheets c.args.sheet ∙ ap (option_map sheet_of) at)) ∙ ap (λ (m : ModelState). option_map (λ (s : Sheet). s.id) (slice_get m.book.sheets c.args.sheet)) c.self.view_is
