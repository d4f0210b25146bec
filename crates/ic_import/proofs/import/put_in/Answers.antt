use Rattle.std.proofs.Common.{◌≡◌, ℕ, List, IsSome, ap, chars, subst, sym, ◌∙◌}
use Rattle.ic_tables.specs.Tables.{TableSet, language_of, locale_of}
use Rattle.ic_machine.specs.Book as machine
use Rattle.ic_parts.specs.Whole.{whole_of}
use Rattle.ic_import.specs.Import.{TellsTyping, in_notation, request}
use Rattle.ic_import.specs.Records.{all_fields, records_of}
use Rattle.ic_import.specs.Typed.{TellsBlocked, typed}
use Rattle.ic_import.specs.declared.error.ImportError.TheVariants as errors
use Rattle.ic_import.proofs.ImportLemmas.{blocked_told, memory_typed, own_language_known, own_locale_known, tables_typed, typed_told}
use Rattle.ic_import.proofs.TypingLemmas.{result_as}
use Rattle.ic_import.proofs.import.put_in.Goals as goal

pub returns-in_err-locale-clause-told : goal.returns-in_err-locale-clause-told
returns-in_err-locale-clause-told c =
    let b = whole_of c.args.model.now.book in
    let asked = request c.args.at.now (chars c.args.locale_id.now) (chars c.args.language_id.now) in
    let records = records_of c.args.separator c.args.bytes.now in
    result_as c.from_residual.result errors.OutOfMemory (λ r. TellsTyping asked b records r b) c.from_residual.ensures (memory_typed asked b records b)

pub returns-in_err-language-clause-told : goal.returns-in_err-language-clause-told
returns-in_err-language-clause-told c =
    let b = whole_of c.args.model.now.book in
    let asked = request c.args.at.now (chars c.args.locale_id.now) (chars c.args.language_id.now) in
    let records = records_of c.args.separator c.args.bytes.now in
    result_as c.from_residual-in_err-language.result errors.OutOfMemory (λ r. TellsTyping asked b records r b) c.from_residual-in_err-language.ensures (memory_typed asked b records b)

pub returns-in_err-copy-clause-told : goal.returns-in_err-copy-clause-told
returns-in_err-copy-clause-told c =
    let b = whole_of c.args.model.now.book in
    let asked = request c.args.at.now (chars c.args.locale_id.now) (chars c.args.language_id.now) in
    let records = records_of c.args.separator c.args.bytes.now in
    result_as c.from_residual-in_err-copy.result errors.OutOfMemory (λ r. TellsTyping asked b records r b) c.from_residual-in_err-copy.ensures (memory_typed asked b records b)

pub switch-requires-clause-locale : goal.switch-requires-clause-locale
switch-requires-clause-locale c =
    subst (λ (t : TableSet). IsSome (locale_of t (chars c.args.locale_id.now))) (sym (ap (λ (b : machine.Book). b.tables) c.in_ok-copy.ensures)) c.requires.met.locale

pub switch-requires-clause-language : goal.switch-requires-clause-language
switch-requires-clause-language c =
    subst (λ (t : TableSet). IsSome (language_of t (chars c.args.language_id.now))) (sym (ap (λ (b : machine.Book). b.tables) c.in_ok-copy.ensures)) c.requires.met.language

pub returns-in_err-counts-clause-told : goal.returns-in_err-counts-clause-told
returns-in_err-counts-clause-told c =
    let b = whole_of c.args.model.now.book in
    let asked = request c.args.at.now (chars c.args.locale_id.now) (chars c.args.language_id.now) in
    let records = records_of c.args.separator c.args.bytes.now in
    let e = c.in_err-counts.field-0.0 in
    let switched : whole_of c.switch.new.model.book ≡ in_notation asked.locale asked.language b = c.switch.ensures ∙ ap (in_notation asked.locale asked.language) c.in_ok-copy.ensures in
    let blocked = subst (λ (x : machine.Book). TellsBlocked (typed asked.sheet asked.at (all_fields records) x) e) switched c.in_err-counts.ensures.blocked in
    result_as c.from_residual-in_err-counts.result e (λ r. TellsTyping asked b records r b) c.from_residual-in_err-counts.ensures (blocked_told asked b records b e c.requires.met.sheet c.requires.typable blocked)

pub switch-requires-2-clause-locale : goal.switch-requires-2-clause-locale
switch-requires-2-clause-locale c =
    let book = c.args.model.now.book in
    let b = whole_of book in
    let asked = request c.args.at.now (chars c.args.locale_id.now) (chars c.args.language_id.now) in
    let records = records_of c.args.separator c.args.bytes.now in
    let switched : whole_of c.switch.new.model.book ≡ in_notation asked.locale asked.language b = c.switch.ensures ∙ ap (in_notation asked.locale asked.language) c.in_ok-copy.ensures in
    let mid = whole_of c.type_all.new.model.book in
    let made = ap (typed asked.sheet asked.at (all_fields records)) (sym switched) ∙ c.in_ok-counts.ensures.typed in
    let tables = tables_typed asked b records mid c.requires.met.sheet c.requires.typable made in
    subst (λ (t : TableSet). IsSome (locale_of t (chars c.as_str-2.result.now))) (sym tables)
    (subst (λ (id : List ℕ). IsSome (locale_of b.tables id)) (sym (ap chars c.as_str-2.ensures.value ∙ c.in_ok-locale.ensures.own)) (own_locale_known book c.own_locale.ensures.valid))

pub switch-requires-2-clause-language : goal.switch-requires-2-clause-language
switch-requires-2-clause-language c =
    let book = c.args.model.now.book in
    let b = whole_of book in
    let asked = request c.args.at.now (chars c.args.locale_id.now) (chars c.args.language_id.now) in
    let records = records_of c.args.separator c.args.bytes.now in
    let switched : whole_of c.switch.new.model.book ≡ in_notation asked.locale asked.language b = c.switch.ensures ∙ ap (in_notation asked.locale asked.language) c.in_ok-copy.ensures in
    let mid = whole_of c.type_all.new.model.book in
    let made = ap (typed asked.sheet asked.at (all_fields records)) (sym switched) ∙ c.in_ok-counts.ensures.typed in
    let tables = tables_typed asked b records mid c.requires.met.sheet c.requires.typable made in
    subst (λ (t : TableSet). IsSome (language_of t (chars c.as_str-3.result.now))) (sym tables)
    (subst (λ (id : List ℕ). IsSome (language_of b.tables id)) (sym (ap chars c.as_str-3.ensures.value ∙ c.in_ok-language.ensures)) (own_language_known book c.own_locale.ensures.valid))

pub returns-clause-told : goal.returns-clause-told
returns-clause-told c =
    let b = whole_of c.args.model.now.book in
    let asked = request c.args.at.now (chars c.args.locale_id.now) (chars c.args.language_id.now) in
    let records = records_of c.args.separator c.args.bytes.now in
    let switched : whole_of c.switch.new.model.book ≡ in_notation asked.locale asked.language b = c.switch.ensures ∙ ap (in_notation asked.locale asked.language) c.in_ok-copy.ensures in
    let mid = whole_of c.type_all.new.model.book in
    let left = whole_of c.switch-2.new.model.book in
    let made = ap (typed asked.sheet asked.at (all_fields records)) (sym switched) ∙ c.in_ok-counts.ensures.typed in
    let locale = ap chars c.as_str-2.ensures.value ∙ c.in_ok-locale.ensures.own in
    let language = ap chars c.as_str-3.ensures.value ∙ c.in_ok-language.ensures in
    let becomes : left ≡ in_notation b.locale b.language mid =
    c.switch-2.ensures ∙ ap (λ id. in_notation id (chars c.as_str-3.result.now) mid) locale ∙ ap (λ id. in_notation b.locale id mid) language in
    typed_told asked b records c.in_ok-counts.counts mid left made becomes c.in_ok-counts.ensures.counted

pub returns-clause-tables : goal.returns-clause-tables
returns-clause-tables c =
    let b = whole_of c.args.model.now.book in
    let asked = request c.args.at.now (chars c.args.locale_id.now) (chars c.args.language_id.now) in
    let records = records_of c.args.separator c.args.bytes.now in
    let switched : whole_of c.switch.new.model.book ≡ in_notation asked.locale asked.language b = c.switch.ensures ∙ ap (in_notation asked.locale asked.language) c.in_ok-copy.ensures in
    let mid = whole_of c.type_all.new.model.book in
    let made = ap (typed asked.sheet asked.at (all_fields records)) (sym switched) ∙ c.in_ok-counts.ensures.typed in
    ap (λ (x : machine.Book). x.tables) c.switch-2.ensures ∙ tables_typed asked b records mid c.requires.met.sheet c.requires.typable made
