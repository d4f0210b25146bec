use Rattle.std.proofs.Common.{◌≡◌, ◌<◌, Some, ap, chars, length, subst, sym, ◌∙◌}
use Rattle.std.specs.List.{slice_get}
use Rattle.ic_laws.specs.CoreBook.{fresh_id}
use Rattle.ic_machine.specs.subjects.Sheets.{name_of_copy}
use Rattle.ic_sheets.specs.Sheet.{Sheet}
use Rattle.ic_tree.proofs.NotationLaws.{english_function_is}
use Rattle.ic_tree.specs.LanguageWords.{function_of}
use Rattle.ic_parts.specs.Book.{ModelState, core_of, whole_of}
use Rattle.ic_parts.specs.Change.{book_changed_by}
use Rattle.ic_changes.specs.Copied.{LooksUpCopied, definitions_copied, sheet_copied, with_copied_sheet}
use Rattle.ic_book.specs.Inside.{held, held_state, with_contents}
use Rattle.ic_book.proofs.CopiedModel.{model_free, model_fresh, model_is, model_looks_up, model_unscoped, model_valid}
use Rattle.ic_book.proofs.model.Model.copy_at.Goals as goal

pub copy_sheet-requires-clause-free : goal.copy_sheet-requires-clause-free
copy_sheet-requires-clause-free c =
    model_free c.self.inside c.self.invariant.book c.args.index c.args.id (chars c.args.name.now) (subst (λ (m : ModelState). c.args.index < length m.book.sheets) (sym c.self.view_is) c.requires.within)
    (ap (λ (m : ModelState). fresh_id (core_of m.book)) c.self.view_is ∙ c.requires.fresh)
    (subst (λ (m : ModelState). (source : Sheet) → slice_get m.book.sheets c.args.index ≡ Some source → chars c.args.name.now ≡ name_of_copy (whole_of m.book) source.name) (sym c.self.view_is) c.requires.named)

pub copy_sheet-requires-clause-fresh : goal.copy_sheet-requires-clause-fresh
copy_sheet-requires-clause-fresh c =
    model_fresh c.self.inside c.self.invariant.book c.args.index c.args.id (chars c.args.name.now) (subst (λ (m : ModelState). c.args.index < length m.book.sheets) (sym c.self.view_is) c.requires.within)
    (ap (λ (m : ModelState). fresh_id (core_of m.book)) c.self.view_is ∙ c.requires.fresh)
    (subst (λ (m : ModelState). (source : Sheet) → slice_get m.book.sheets c.args.index ≡ Some source → chars c.args.name.now ≡ name_of_copy (whole_of m.book) source.name) (sym c.self.view_is) c.requires.named)

pub copy_sheet-requires-clause-unscoped : goal.copy_sheet-requires-clause-unscoped
copy_sheet-requires-clause-unscoped c =
    model_unscoped c.self.inside c.self.invariant.book c.args.index c.args.id (chars c.args.name.now) (subst (λ (m : ModelState). c.args.index < length m.book.sheets) (sym c.self.view_is) c.requires.within)
    (ap (λ (m : ModelState). fresh_id (core_of m.book)) c.self.view_is ∙ c.requires.fresh)
    (subst (λ (m : ModelState). (source : Sheet) → slice_get m.book.sheets c.args.index ≡ Some source → chars c.args.name.now ≡ name_of_copy (whole_of m.book) source.name) (sym c.self.view_is) c.requires.named)

pub invariant_of-self-2 : goal.invariant_of-self-2
invariant_of-self-2 c =
    record {
      book = model_valid c.self.inside c.self.invariant.book c.args.index c.args.id (chars c.args.name.now) (subst (λ (m : ModelState). c.args.index < length m.book.sheets) (sym c.self.view_is) c.requires.within)
          (ap (λ (m : ModelState). fresh_id (core_of m.book)) c.self.view_is ∙ c.requires.fresh)
          (subst (λ (m : ModelState). (source : Sheet) → slice_get m.book.sheets c.args.index ≡ Some source → chars c.args.name.now ≡ name_of_copy (whole_of m.book) source.name) (sym c.self.view_is) c.requires.named)
          (function_of c.get_default_language-english.result.now) (sym (english_function_is c.self.inside.notation.tables c.get_default_language-english.result.now c.get_default_language-english.ensures.found))
          c.copy_sheet.new.contents c.in_ok-copy_sheet.ensures.ok;
      names = c.copy_sheet.ensures.indexed;
    }

pub returns-clause-ok : goal.returns-clause-ok
returns-clause-ok c = λ source at.
    subst (λ (m : ModelState). (x : Sheet) → slice_get m.book.sheets c.args.index ≡ Some x
    → held (with_contents c.copy_sheet.new.contents.sheets c.copy_sheet.new.contents.definitions c.self.inside) ≡ book_changed_by (with_copied_sheet c.args.index (sheet_copied m.book c.args.index x) (definitions_copied m.book c.args.index x)) m.book) c.self.view_is
    (model_is c.self.inside c.self.invariant.book c.args.index c.args.id (chars c.args.name.now) (subst (λ (m : ModelState). c.args.index < length m.book.sheets) (sym c.self.view_is) c.requires.within)
    (ap (λ (m : ModelState). fresh_id (core_of m.book)) c.self.view_is ∙ c.requires.fresh)
    (subst (λ (m : ModelState). (source : Sheet) → slice_get m.book.sheets c.args.index ≡ Some source → chars c.args.name.now ≡ name_of_copy (whole_of m.book) source.name) (sym c.self.view_is) c.requires.named)
    (function_of c.get_default_language-english.result.now) (sym (english_function_is c.self.inside.notation.tables c.get_default_language-english.result.now c.get_default_language-english.ensures.found))
    c.copy_sheet.new.contents c.in_ok-copy_sheet.ensures.ok) source at

pub returns-clause-looks_up : goal.returns-clause-looks_up
returns-clause-looks_up c =
    subst (λ (m : ModelState). LooksUpCopied c.args.index m (held_state (with_contents c.copy_sheet.new.contents.sheets c.copy_sheet.new.contents.definitions c.self.inside))) c.self.view_is
    (model_looks_up c.self.inside c.self.invariant.book c.args.index c.args.id (chars c.args.name.now) (subst (λ (m : ModelState). c.args.index < length m.book.sheets) (sym c.self.view_is) c.requires.within)
    (ap (λ (m : ModelState). fresh_id (core_of m.book)) c.self.view_is ∙ c.requires.fresh)
    (subst (λ (m : ModelState). (source : Sheet) → slice_get m.book.sheets c.args.index ≡ Some source → chars c.args.name.now ≡ name_of_copy (whole_of m.book) source.name) (sym c.self.view_is) c.requires.named)
    (function_of c.get_default_language-english.result.now) (sym (english_function_is c.self.inside.notation.tables c.get_default_language-english.result.now c.get_default_language-english.ensures.found))
    c.copy_sheet.new.contents c.in_ok-copy_sheet.ensures.ok)
