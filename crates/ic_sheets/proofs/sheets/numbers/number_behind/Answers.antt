use Rattle.std.proofs.Common.{◌∙◌, ◌++◌, ap, sym}
use Rattle.ic_sheets.proofs.NumberLemmas.{named_so}
use Rattle.ic_sheets.proofs.sheets.numbers.number_behind.Goals as goal

pub returns : goal.returns
returns c =
    let cut = c.in_ok-rest.ensures.cases in
    named_so c.args.name.now c.args.word.now c.in_ok-rest.rest.now c.number_of.result c.utf8.word (cut.1.1 ∙ ap (λ r. c.args.word.now ++ r) (sym cut.2)) c.number_of.ensures
