use Rattle.std.proofs.Common.{◌≡◌, ◌<◌, IfOk, Some, chars, length, string_bytes, subst, sym}
use Rattle.std.specs.List.{slice_get}
use Rattle.ic_machine.specs.subjects.Sheets.{name_of_copy}
use Rattle.ic_sheets.specs.Sheet.{Sheet}
use Rattle.ic_parts.specs.Book.{ModelState, whole_of}
use Rattle.ic_sheets.proofs.IndexLemmas.{read_boxed}
use Rattle.ic_book.proofs.CopiedModel.{copy_named}
use Rattle.ic_book.proofs.NewSheetLemmas.{few_sheets}
use Rattle.ic_book.proofs.model.Model.name_of_copy.Goals as goal

pub free_name-requires-clause-few : goal.free_name-requires-clause-few
free_name-requires-clause-few c = few_sheets c.self.inside c.self.invariant.book

pub returns-clause-named : goal.returns-clause-named
returns-clause-named c =
    subst (λ (m : ModelState). IfOk c.free_name.result (λ name. (source : Sheet) → slice_get m.book.sheets c.args.index ≡ Some source → chars (string_bytes name) ≡ name_of_copy (whole_of m.book) source.name)) c.self.view_is
    (copy_named c.self.inside c.self.invariant.book c.args.index c.as_slice.result.now c.as_ref-source.result.now c.as_slice.ensures.sheets (read_boxed c.as_slice.result.now c.args.index c.as_ref-source.ensures c.index-as_slice-index.is) (chars c.as_str.result.now) c.as_str.ensures.characters c.free_name.result c.free_name.ensures.named
    (subst (λ (m : ModelState). c.args.index < length m.book.sheets) (sym c.self.view_is) c.requires))
