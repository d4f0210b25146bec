use Rattle.std.proofs.Common.{chars, refl}
use Rattle.ic_tree.specs.Shown.{decimal_of, list_of, shown_meaning}
use Rattle.ic_tree.proofs.ErrorLemmas.{found_here, not_found}
use Rattle.ic_tree.proofs.ShownLemmas.{no_number}
use Rattle.ic_tree.proofs.shown.ShownDialect.find_error.Goals as goal

pub returns-in_default-find_error_in : goal.returns-in_default-find_error_in
returns-in_default-find_error_in c =
    let d = c.args.self.now in
    not_found (shown_meaning d.words.language.now d.english.language.now (list_of d.is_comma) (decimal_of d.is_comma) d.row d.column) c.args.text.now c.in-Some.front.now c.args.at
    c.in-Some.ensures.back c.in_default-find_error_in.ensures

pub returns-in_default-error_of : goal.returns-in_default-error_of
returns-in_default-error_of c =
    let d = c.args.self.now in
    absurd (no_number d.words.language.now d.english.language.now (chars c.in-Some.front.now) (chars c.in-Some-find_error_in.rest.now) c.in-Some-find_error_in.number d.good
    c.in-Some-find_error_in.ensures c.in_default-error_of.ensures)

pub returns : goal.returns
returns c =
    let d = c.args.self.now in
    found_here (shown_meaning d.words.language.now d.english.language.now (list_of d.is_comma) (decimal_of d.is_comma) d.row d.column) c.args.text.now c.in-Some.front.now
    (chars c.in-Some-find_error_in.rest.now) c.args.at c.in-Some-find_error_in.number c.bytes_before.result c.in-Some-error_of.error
    (c.in-Some.ensures.variant.0 refl) c.in-Some.ensures.back c.in-Some-find_error_in.ensures c.in-Some-error_of.ensures
    (c.bytes_before.ensures c.in-Some-find_error_in.ensures.front c.in-Some-find_error_in.ensures.split)
