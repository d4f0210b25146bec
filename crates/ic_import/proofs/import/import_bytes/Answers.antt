use Rattle.std.proofs.Common.{◌≡◌, ap, chars, length, subst, ◌∙◌}
use Rattle.ic_parts.specs.Whole.{whole_of}
use Rattle.ic_import.specs.Import.{BlocksRightly, IsOfBytes, Outcome, Tells, TellsImport, TellsTyping, TellsWrong, request, separator_of}
use Rattle.ic_import.specs.Records.{all_fields, records_of}
use Rattle.ic_import.specs.Typed.{Typable}
use Rattle.ic_import.proofs.ImportLemmas.{typable_outcome, typing_of_bytes, wrong_of_bytes, wrong_told}
use Rattle.ic_import.proofs.TypingLemmas.{error_as, result_as}
use Rattle.ic_import.proofs.import.import_bytes.Goals as goal

pub returns-in_err-look_over-clause-told : goal.returns-in_err-look_over-clause-told
returns-in_err-look_over-clause-told c =
    let b = whole_of c.args.model.now.book in
    let asked = request c.args.at.now (chars c.args.locale_id.now) (chars c.args.language_id.now) in
    let same : c.args.separator ≡ separator_of b.tables asked.locale = c.requires.separator ∙ ap (λ t. separator_of t asked.locale) c.requires.tables in
    let records = records_of (separator_of b.tables asked.locale) c.args.bytes.now in
    let e = c.in_err-look_over.field-0.0 in
    let wrong = subst (λ s. TellsWrong asked.at (all_fields (records_of s c.args.bytes.now)) e) same c.in_err-look_over.ensures.wrong in
    result_as c.from_residual.result e (λ r. TellsImport asked b c.args.bytes.now r b) c.from_residual.ensures
    (wrong_told asked b (all_fields records) (length records) (length (all_fields records)) b e wrong)

pub returns-in_err-look_over-clause-which : goal.returns-in_err-look_over-clause-which
returns-in_err-look_over-clause-which c =
    let e = c.in_err-look_over.field-0.0 in
    error_as c.from_residual.result e IsOfBytes c.from_residual.ensures (wrong_of_bytes (c.args.at.now.row, c.args.at.now.column) (all_fields (records_of c.args.separator c.args.bytes.now)) e c.in_err-look_over.ensures.wrong).0

pub returns-in_err-look_over-clause-blocked : goal.returns-in_err-look_over-clause-blocked
returns-in_err-look_over-clause-blocked c =
    let e = c.in_err-look_over.field-0.0 in
    error_as c.from_residual.result e BlocksRightly c.from_residual.ensures (wrong_of_bytes (c.args.at.now.row, c.args.at.now.column) (all_fields (records_of c.args.separator c.args.bytes.now)) e c.in_err-look_over.ensures.wrong).1

pub returns-clause-told : goal.returns-clause-told
returns-clause-told c =
    let b = whole_of c.args.model.now.book in
    let left = whole_of c.put_in.new.model.book in
    let asked = request c.args.at.now (chars c.args.locale_id.now) (chars c.args.language_id.now) in
    let same : c.args.separator ≡ separator_of b.tables asked.locale = c.requires.separator ∙ ap (λ t. separator_of t asked.locale) c.requires.tables in
    let records = records_of (separator_of b.tables asked.locale) c.args.bytes.now in
    let typable = subst (λ s. Typable asked.at (all_fields (records_of s c.args.bytes.now))) same c.in_ok-look_over.ensures.typable in
    let told = subst (λ s. TellsTyping asked b (records_of s c.args.bytes.now) c.put_in.result left) same c.put_in.ensures.told in
    subst (λ (o : Outcome). Tells o (length records) (length (all_fields records)) c.put_in.result left) (typable_outcome asked b (all_fields records) (length records) (length (all_fields records)) left typable) told.told

pub returns-clause-which : goal.returns-clause-which
returns-clause-which c = typing_of_bytes c.put_in.result c.put_in.ensures.told.which

pub returns-clause-blocked : goal.returns-clause-blocked
returns-clause-blocked c = c.put_in.ensures.told.blocked
