use Rattle.std.proofs.Common.{◌∙◌, ap, option_map, sym}
use Rattle.ic_parts.specs.Book.{ModelState, core_of}
use Rattle.ic_parts.proofs.NameLemmas.{scope_there}
use Rattle.ic_book.proofs.model.Model.scope_id.Goals as goal

pub returns-in_ok-sheet-in-Some : goal.returns-in_ok-sheet-in-Some
returns-in_ok-sheet-in-Some c =
    scope_there (core_of c.args.self.now.book) c.self.inside.contents.sheets c.args.scope c.in-Some.index c.in_ok-sheet-in-Some.sheet.now (ap (λ (m : ModelState). (core_of m.book).sheets) (sym c.self.view_is)) c.in-Some.is
    (sym c.get.ensures ∙ ap (option_map (λ s. s.now)) c.in_ok-sheet-in-Some.was)
