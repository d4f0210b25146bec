use Rattle.std.proofs.Common.{◌≡◌, ap, ◌∙◌, chars, string_bytes, subst, IfOk}
use Rattle.ic_machine.specs.subjects.Sheets.{base_name, new_sheet_name}
use Rattle.ic_parts.specs.Book.{ModelState}
use Rattle.ic_parts.specs.Whole.{whole_of}
use Rattle.ic_book.proofs.NewSheetLemmas.{few_sheets, new_name_of}
use Rattle.ic_book.proofs.model.Model.seen_new_name.Goals as goal

pub seen_free_name-requires-clause-few : goal.seen_free_name-requires-clause-few
seen_free_name-requires-clause-few c = few_sheets c.self.inside c.self.invariant.book

pub returns : goal.returns
returns c =
    subst (λ (m : ModelState). IfOk c.seen_free_name.result (λ name. chars (string_bytes name) ≡ new_sheet_name (whole_of m.book))) c.self.view_is
    (new_name_of c.self.inside c.self.invariant.book c.seen_free_name.result (chars c.base_name.result.now) (c.base_name.ensures ∙ ap base_name c.language.ensures.code) c.seen_free_name.ensures)
