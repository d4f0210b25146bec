use Rattle.std.proofs.Common.{◌≡◌, ap, ◌∙◌, chars, string_bytes, subst, IfOk}
use Rattle.ic_machine.specs.subjects.Sheets.{base_name, new_sheet_name}
use Rattle.ic_parts.specs.Book.{ModelState}
use Rattle.ic_parts.specs.Whole.{whole_of}
use Rattle.ic_book.proofs.NewSheetLemmas.{few_sheets, new_name_of}
use Rattle.ic_book.proofs.model.Model.new_name.Goals as goal

pub free_name-requires-clause-few : goal.free_name-requires-clause-few
free_name-requires-clause-few c = few_sheets c.self.inside c.self.invariant.book

pub returns-clause-named : goal.returns-clause-named
returns-clause-named c =
    subst (λ (m : ModelState). IfOk c.free_name.result (λ name. chars (string_bytes name) ≡ new_sheet_name (whole_of m.book))) c.self.view_is
    (new_name_of c.self.inside c.self.invariant.book c.free_name.result (chars c.base_name.result.now) (c.base_name.ensures ∙ ap base_name c.language.ensures.code) c.free_name.ensures.named)
