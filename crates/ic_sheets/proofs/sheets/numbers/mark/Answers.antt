use Rattle.std.proofs.Common.{◌∙◌, arith, sym, chars}
use Rattle.ic_sheets.proofs.IndexLemmas.{read_boxed}
use Rattle.ic_sheets.proofs.NumberLemmas.{marked_too}
use Rattle.ic_sheets.proofs.sheets.numbers.mark.Goals as goal

pub returns : goal.returns
returns c =
    marked_too (chars c.args.word.now) c.args.sheets.now c.args.marks.now.items c.requires.before c.args.index c.as_ref.result.now (read_boxed c.args.sheets.now c.args.index c.as_ref.ensures c.index-sheets-index.is) c.requires.within c.in-Some.number
    c.if-number-eq0.false (omega (arith, c.if-number-len.false)) (sym c.as_str.ensures.characters ∙ c.in-Some.ensures)
