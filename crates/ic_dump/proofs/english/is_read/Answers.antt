use Rattle.std.proofs.Common.{◌∙◌, ap, chars, sym}
use Rattle.std.proofs.lemmas.Result.{IfOk-weaker}
use Rattle.ic_laws.specs.CoreBook.{CellPlace}
use Rattle.ic_laws.specs.Notations.{english}
use Rattle.ic_tree.specs.Notations.{notations_of}
use Rattle.ic_parts.specs.Book.{NotationState, notations_in}
use Rattle.ic_dump.proofs.ReadLemmas.{closed_read, nothing_read, plain_read}
use Rattle.ic_cells.proofs.MapLemmas.{stored_pair}
use Rattle.ic_dump.proofs.english.is_read.Goals as goal

pub returns-then-is_nothing : goal.returns-then-is_nothing
returns-then-is_nothing c = λ book e. nothing_read (notations_in book) (c.args.row, c.args.column) (chars c.args.text.now) (sym c.is_nothing.ensures ∙ c.if-is_nothing.true)

pub returns-then-is_plain : goal.returns-then-is_plain
returns-then-is_plain c =
    λ book e. plain_read (notations_in book) (c.args.row, c.args.column) (chars c.args.text.now) _
    (c.english_at-shown.ensures
    ∙ ap (λ (p : CellPlace). (notations_of c.args.english.now.tables).shown english english p.0 p.1) (stored_pair c.args.row c.args.column c.ranges.row c.ranges.column)
    ∙ ap (λ (t : NotationState). (notations_of t.tables).shown english english c.args.row c.args.column) e)
    (sym c.is_nothing.ensures ∙ c.if-is_nothing.false) (sym c.in_ok-is_plain.ensures ∙ c.if-is_plain.true)

pub returns : goal.returns
returns c =
    λ book e. IfOk-weaker c.reads_closed.result _ _
    (λ b is. is ∙ closed_read (notations_in book) (c.args.row, c.args.column) (chars c.args.text.now) _
    (c.english_at-shown.ensures
    ∙ ap (λ (p : CellPlace). (notations_of c.args.english.now.tables).shown english english p.0 p.1) (stored_pair c.args.row c.args.column c.ranges.row c.ranges.column)
    ∙ ap (λ (t : NotationState). (notations_of t.tables).shown english english c.args.row c.args.column) e)
    (sym c.is_nothing.ensures ∙ c.if-is_nothing.false) (sym c.in_ok-is_plain.ensures ∙ c.if-is_plain.false))
    c.reads_closed.ensures
