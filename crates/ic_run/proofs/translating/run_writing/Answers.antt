use Rattle.std.proofs.Common.{ap, chars, option_map, refl, string_bytes, sym, ◌∙◌}
use Rattle.std.specs.Prelude.{option_and_then}
use Rattle.ic_machine.specs.Book.{Book}
use Rattle.ic_machine.specs.Translation.{in_notation, texts_of, why_not, with_last}
use Rattle.ic_parts.specs.Translated.{IsIn, why_meant}
use Rattle.ic_parts.specs.Whole.{whole_of}
use Rattle.ic_run.proofs.TurnLemmas.{becomes_so, cannot_so}
use Rattle.ic_run.proofs.translating.run_writing.Goals as goal

pub returns-in-Some-clause-turn : goal.returns-in-Some-clause-turn
returns-in-Some-clause-turn c =
    let old : Book = whole_of c.args.model.now.book in
    let target = c.args.target.now in
    let book : Book = in_notation target.locale target.language old in
    let here : IsIn target book = record { tables = sym c.requires.tables; locale = refl; language = refl } in
    let own = c.requires.own in
    cannot_so old c.args.line.now own.0 own.1 target c.args.own.now own.2 own.3 here c.why_not.result c.in-Some.why (c.why_not.ensures book here) c.in-Some.is

pub returns-clause-turn : goal.returns-clause-turn
returns-clause-turn c =
    let old : Book = whole_of c.args.model.now.book in
    let new : Book = whole_of c.is_accepted.new.model.book in
    let target = c.args.target.now in
    let book : Book = in_notation target.locale target.language old in
    let here : IsIn target book = record { tables = sym c.requires.tables; locale = refl; language = refl } in
    let own = c.requires.own in
    let line = c.args.line.now in
    let text = chars (string_bytes c.in_ok-text.text) in
    becomes_so old line own.0 own.1 own.2 new (sym c.if-not-branch.false ∙ c.in_ok-is_accepted.ensures.accepted) c.in_ok-is_accepted.ensures.left target.locale target.language
    (ap (option_and_then (why_not book)) own.3.0.formula ∙ sym (c.why_not.ensures book here) ∙ ap (option_map why_meant) c.in_default.is)
    (with_last text (texts_of line)) (own.3.0.texts (in_notation target.locale target.language new) (texts_of line) text c.in_ok-text.ensures)
    c.in_ok-line_with_last.field-0 c.in_ok-line_with_last.ensures
