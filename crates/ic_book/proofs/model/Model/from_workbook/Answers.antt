use Rattle.std.proofs.Common.{◌∙◌, ℕ, List, chars, ap, subst, sym}
use Rattle.std.proofs.lemmas.Result.{IfErr-weaker, IfOk-weaker}
use Rattle.ic_tables.specs.Tables.{TableSet, lists_zone, locale_of}
use Rattle.ic_cells.specs.declared.workbook.Workbook.{Workbook}
use Rattle.ic_workbooks.specs.HandedIn.{MeetsAll, book_of}
use Rattle.ic_workbooks.proofs.FirstLemmas.{tells_handed_in}
use Rattle.ic_book.proofs.HandedInValid.{lacks_nothing}
use Rattle.ic_parts.proofs.HeldLemmas.{language_is}
use Rattle.ic_tables.proofs.WellFormed.{locale_found as locale_is}
use Rattle.ic_book.proofs.model.Model.from_workbook.Goals as goal

pub from_records-requires-clause-locale : goal.from_records-requires-clause-locale
from_records-requires-clause-locale c = (locale_is c.args.tables.now (chars c.as_str.result.now) c.in-Ok.locale.now c.in-Ok.ensures.found).0 ∙ c.as_str.ensures.characters

pub from_records-requires-clause-locale_there : goal.from_records-requires-clause-locale_there
from_records-requires-clause-locale_there c = (locale_is c.args.tables.now (chars c.as_str.result.now) c.in-Ok.locale.now c.in-Ok.ensures.found).1

pub from_records-requires-clause-language_there : goal.from_records-requires-clause-language_there
from_records-requires-clause-language_there c = (language_is c.args.tables.now (chars c.args.language_id.now) c.in-Ok-get_language.language.now c.in-Ok-get_language.ensures.found).1

pub from_records-requires-clause-zone : goal.from_records-requires-clause-zone
from_records-requires-clause-zone c = c.in-Some.ensures.name ∙ c.as_str-2.ensures.characters

pub from_records-requires-clause-free : goal.from_records-requires-clause-free
from_records-requires-clause-free c =
    let w : Workbook = c.args.workbook in
    let tables : TableSet = c.args.tables.now in
    let code = language_is tables (chars c.args.language_id.now) c.in-Ok-get_language.language.now c.in-Ok-get_language.ensures.found in
    lacks_nothing w c.in-Ok-get_language.language.now.code tables c.in-Ok.locale.now (ap (locale_of tables) (sym c.as_str.ensures.characters) ∙ c.in-Ok.ensures.found)
    (ap (lists_zone tables) (sym c.as_str-2.ensures.characters) ∙ sym c.in-Some.ensures.listed) c.in-Ok-get_language.language.now code.1

pub returns-clause-ok : goal.returns-clause-ok
returns-clause-ok c =
    let tables : TableSet = c.args.tables.now in
    let code = language_is tables (chars c.args.language_id.now) c.in-Ok-get_language.language.now c.in-Ok-get_language.ensures.found in
    IfOk-weaker c.from_records.result _ _ (λ m e. e ∙ ap (λ (language : List ℕ). book_of c.args.workbook language tables) code.0) c.from_records.ensures.ok

pub returns-clause-taken : goal.returns-clause-taken
returns-clause-taken c =
    let w : Workbook = c.args.workbook in
    let tables : TableSet = c.args.tables.now in
    let code = language_is tables (chars c.args.language_id.now) c.in-Ok-get_language.language.now c.in-Ok-get_language.ensures.found in
    let free = lacks_nothing w (chars c.args.language_id.now) tables c.in-Ok.locale.now (ap (locale_of tables) (sym c.as_str.ensures.characters) ∙ c.in-Ok.ensures.found)
    (ap (lists_zone tables) (sym c.as_str-2.ensures.characters) ∙ sym c.in-Some.ensures.listed) c.in-Ok-get_language.language.now c.in-Ok-get_language.ensures.found in
    IfOk-weaker c.from_records.result _ _ (λ m e. record { free = free; meets = subst (λ (l : List ℕ). MeetsAll w l tables) code.0 e }) c.from_records.ensures.met

pub returns-clause-err : goal.returns-clause-err
returns-clause-err c =
    let w : Workbook = c.args.workbook in
    let tables : TableSet = c.args.tables.now in
    let free = lacks_nothing w (chars c.args.language_id.now) tables c.in-Ok.locale.now (ap (locale_of tables) (sym c.as_str.ensures.characters) ∙ c.in-Ok.ensures.found)
    (ap (lists_zone tables) (sym c.as_str-2.ensures.characters) ∙ sym c.in-Some.ensures.listed) c.in-Ok-get_language.language.now c.in-Ok-get_language.ensures.found in
    IfErr-weaker c.from_records.result _ _ (λ e h. tells_handed_in w (chars c.args.language_id.now) tables free e h) c.from_records.ensures.err
