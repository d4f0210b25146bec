use Rattle.std.proofs.Common.{◌≡◌, ◌+◌, IfSome, Option, Some, ap, chars, length, refl, string_bytes, subst, sym, ◌∙◌}
use Rattle.std.specs.List.{slice_get}
use Rattle.std.specs.Prelude.{is_none}
use Rattle.ic_laws.specs.Name.{is_sheet_name}
use Rattle.ic_machine.specs.subjects.Sheets.{copy_name}
use Rattle.ic_sheets.specs.Sheet.{Sheet}
use Rattle.ic_parts.specs.Book.{IsValidBook, ModelState}
use Rattle.ic_parts.specs.Change.{book_changed_by}
use Rattle.ic_parts.specs.Fields.{named_sheet_fields}
use Rattle.ic_parts.specs.SheetNames.{IsNumbered}
use Rattle.ic_changes.specs.Copied.{LooksUpCopied, definitions_copied, sheet_copied, with_copied_sheet}
use Rattle.ic_book.proofs.CopiedModel.{none_there, source_there}
use Rattle.ic_changes.proofs.CopiedSteps.{copy_binds, copy_done, copy_good, copy_lacks, copy_means, copy_numbered, copy_used_up, copy_wants}
use Rattle.ic_book.proofs.model.Model.duplicate_sheet.Goals as goal

pub returns-then-index-len-clause-does : goal.returns-then-index-len-clause-does
returns-then-index-len-clause-does c =
    copy_lacks c.args.self.now (subst (λ (m : ModelState). IsValidBook m.book) c.self.view_is c.self.invariant.book) c.args.source_index
    (none_there c.self.inside c.args.self.now c.self.view_is c.args.source_index c.len.result c.len.ensures c.if-index-len.true) named_sheet_fields

pub returns-in_default-clause-does : goal.returns-in_default-clause-does
returns-in_default-clause-does c =
    let there = source_there c.self.inside c.args.self.now c.self.view_is c.args.source_index c.len.result c.len.ensures c.if-index-len.false in
    copy_used_up c.args.self.now (subst (λ (m : ModelState). IsValidBook m.book) c.self.view_is c.self.invariant.book) c.args.source_index there.0 there.1 (ap is_none (sym c.in_default.ensures.fresh)) named_sheet_fields

pub returns-in_err-name-clause-does : goal.returns-in_err-name-clause-does
returns-in_err-name-clause-does c =
    let there = source_there c.self.inside c.args.self.now c.self.view_is c.args.source_index c.len.result c.len.ensures c.if-index-len.false in
    copy_wants c.args.self.now (subst (λ (m : ModelState). IsValidBook m.book) c.self.view_is c.self.invariant.book) c.args.source_index there.0 there.1 (ap is_none (sym c.in-Some.ensures.fresh)) named_sheet_fields c.from_residual.result c.from_residual.ensures
    c.name_of_copy.new.self c.name_of_copy.ensures.same

pub returns-in_err-copy_at-clause-does : goal.returns-in_err-copy_at-clause-does
returns-in_err-copy_at-clause-does c =
    let there = source_there c.self.inside c.args.self.now c.self.view_is c.args.source_index c.len.result c.len.ensures c.if-index-len.false in
    copy_wants c.args.self.now (subst (λ (m : ModelState). IsValidBook m.book) c.name_of_copy.ensures.same c.copy_at.ensures.valid) c.args.source_index there.0 there.1 (ap is_none (sym c.in-Some.ensures.fresh)) named_sheet_fields c.from_residual-in_err-copy_at.result c.from_residual-in_err-copy_at.ensures
    c.copy_at.new.self (c.in_err-copy_at.ensures.err ∙ c.name_of_copy.ensures.same)

pub returns-clause-does : goal.returns-clause-does
returns-clause-does c =
    let there = source_there c.self.inside c.args.self.now c.self.view_is c.args.source_index c.len.result c.len.ensures c.if-index-len.false in
    copy_done c.args.self.now (subst (λ (m : ModelState). IsValidBook m.book) c.name_of_copy.ensures.same c.copy_at.ensures.valid) c.args.source_index there.0 there.1 (ap is_none (sym c.in-Some.ensures.fresh)) c.copy_at.new.self c.in_ok-name.name (c.args.source_index + 1) (c.in_ok-name.ensures.named there.0 there.1) refl
    (subst (λ (m : ModelState). (source : Sheet) → slice_get m.book.sheets c.args.source_index ≡ Some source
    → c.copy_at.new.self.book ≡ book_changed_by (with_copied_sheet c.args.source_index (sheet_copied m.book c.args.source_index source) (definitions_copied m.book c.args.source_index source)) m.book) c.name_of_copy.ensures.same
    c.in_ok-copy_at.ensures.ok there.0 there.1)

pub returns-clause-named : goal.returns-clause-named
returns-clause-named c =
    let there = source_there c.self.inside c.args.self.now c.self.view_is c.args.source_index c.len.result c.len.ensures c.if-index-len.false in
    ap is_sheet_name (c.in_ok-name.ensures.named there.0 there.1) ∙ copy_good c.args.self.now (subst (λ (m : ModelState). IsValidBook m.book) c.name_of_copy.ensures.same c.copy_at.ensures.valid) c.args.source_index there.0 there.1

pub returns-clause-numbered : goal.returns-clause-numbered
returns-clause-numbered c =
    let there = source_there c.self.inside c.args.self.now c.self.view_is c.args.source_index c.len.result c.len.ensures c.if-index-len.false in
    subst (λ (o : Option Sheet). IfSome o (λ source. IsNumbered (length c.args.self.now.book.sheets) (copy_name source.name) (chars (string_bytes c.in_ok-name.name)))) (sym there.1)
    (copy_numbered c.args.self.now (subst (λ (m : ModelState). IsValidBook m.book) c.name_of_copy.ensures.same c.copy_at.ensures.valid) c.args.source_index there.0 there.1 (chars (string_bytes c.in_ok-name.name)) (c.in_ok-name.ensures.named there.0 there.1))

pub returns-clause-binds : goal.returns-clause-binds
returns-clause-binds c = copy_binds c.args.self.now (subst (λ (m : ModelState). IsValidBook m.book) c.name_of_copy.ensures.same c.copy_at.ensures.valid) c.args.source_index c.copy_at.new.self (named_sheet_fields (c.in_ok-name.name, c.args.source_index + 1)) (returns-clause-does c).done

pub returns-clause-means : goal.returns-clause-means
returns-clause-means c = copy_means c.args.self.now (subst (λ (m : ModelState). IsValidBook m.book) c.name_of_copy.ensures.same c.copy_at.ensures.valid) c.args.source_index c.copy_at.new.self (named_sheet_fields (c.in_ok-name.name, c.args.source_index + 1)) (returns-clause-does c).done

pub returns-clause-looks_up : goal.returns-clause-looks_up
returns-clause-looks_up c = subst (λ (m : ModelState). LooksUpCopied c.args.source_index m c.copy_at.new.self) c.name_of_copy.ensures.same c.in_ok-copy_at.ensures.looks_up
