use Rattle.std.proofs.Common.{ap, ◌∙◌}
use Rattle.ic_tree.proofs.NotationLaws.{stored_notation}
use Rattle.ic_tree.specs.Notations.{notations_of}
use Rattle.ic_parts.specs.Book.{ModelState, notations_in}
use Rattle.ic_book.proofs.model.Model.stored_form.Goals as goal

pub returns : goal.returns
returns c = stored_notation c.tables.result.now _ c.new.ensures ∙ ap (λ t. (notations_of t).stored) c.tables.ensures ∙ ap (λ (m : ModelState). (notations_in m.book).stored) c.self.view_is
