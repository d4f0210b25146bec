use Rattle.std.proofs.Common.{is_some, chars, sym, ap, subst}
use Rattle.ic_definitions.proofs.NamedLemmas.{finds_empty}
use Rattle.ic_parts.specs.Book.{IsValidBook}
use Rattle.ic_parts.proofs.HeldLemmas.{language_is}
use Rattle.ic_book.proofs.HeldLemmas.{start_is}
use Rattle.ic_parts.proofs.StartLemmas.{new_book_valid}
use Rattle.ic_tables.proofs.WellFormed.{locale_found as locale_is}
use Rattle.ic_book.proofs.model.Model.new_empty.Goals as goal

pub new-requires-clause-locale : goal.new-requires-clause-locale
new-requires-clause-locale c = (locale_is c.args.tables.now (chars c.args.locale_id.now) c.in-Ok.locale.now c.in-Ok.ensures.found).1

pub new-requires-clause-language : goal.new-requires-clause-language
new-requires-clause-language c = (language_is c.args.tables.now (chars c.args.language_id.now) c.in-Ok-get_language.language.now c.in-Ok-get_language.ensures.found).1

pub invariant_of-result : goal.invariant_of-result
invariant_of-result c =
    let start =
    start_is
    (record {
      alloc = c.args.alloc;
      notation = c.new.result;
      contents = record { sheets = c.in_ok-sheets.sheets; definitions = c.new-2.result };
      names = record { sheets = c.in_ok-sheets.ids; names = c.new-3.result; numbers = c.new-4.result };
      lists = c.in_ok-lists.lists;
      about = c.in_ok-about.about;
    })
    (chars c.args.name.now) (chars c.args.locale_id.now) (chars c.args.language_id.now) (chars c.args.timezone.now) c.in-Some.zone
    c.in-Ok.locale.now c.in-Ok-get_language.language.now c.args.tables.now
    c.in_ok-about.ensures c.in-Some.ensures.name c.in_ok-sheets.ensures.sheets c.new-2.ensures c.in_ok-lists.ensures c.new.ensures
    (locale_is c.args.tables.now (chars c.args.locale_id.now) c.in-Ok.locale.now c.in-Ok.ensures.found).0
    (language_is c.args.tables.now (chars c.args.language_id.now) c.in-Ok-get_language.language.now c.in-Ok-get_language.ensures.found).0 in
    record {
      book = subst IsValidBook (sym start)
          (new_book_valid (chars c.args.name.now) (chars c.args.locale_id.now) (chars c.args.timezone.now) (chars c.args.language_id.now) c.in_ok-about.about.metadata.created c.args.tables.now (ap is_some c.in-Ok.ensures.found) (ap is_some c.in-Ok-get_language.ensures.found)
          (sym c.in-Some.ensures.listed) c.in-Some.ensures.well_formed);
      names = record {
        sheets = c.in_ok-sheets.ensures.finds;
        names = finds_empty c.new-3.result c.new-2.result c.new-3.ensures.empty c.new-2.ensures;
        numbers = c.new-4.ensures _;
      };
    }

pub returns-clause-start : goal.returns-clause-start
returns-clause-start c =
    start_is
    (record {
      alloc = c.args.alloc;
      notation = c.new.result;
      contents = record { sheets = c.in_ok-sheets.sheets; definitions = c.new-2.result };
      names = record { sheets = c.in_ok-sheets.ids; names = c.new-3.result; numbers = c.new-4.result };
      lists = c.in_ok-lists.lists;
      about = c.in_ok-about.about;
    })
    (chars c.args.name.now) (chars c.args.locale_id.now) (chars c.args.language_id.now) (chars c.args.timezone.now) c.in-Some.zone
    c.in-Ok.locale.now c.in-Ok-get_language.language.now c.args.tables.now
    c.in_ok-about.ensures c.in-Some.ensures.name c.in_ok-sheets.ensures.sheets c.new-2.ensures c.in_ok-lists.ensures c.new.ensures
    (locale_is c.args.tables.now (chars c.args.locale_id.now) c.in-Ok.locale.now c.in-Ok.ensures.found).0
    (language_is c.args.tables.now (chars c.args.language_id.now) c.in-Ok-get_language.language.now c.in-Ok-get_language.ensures.found).0
