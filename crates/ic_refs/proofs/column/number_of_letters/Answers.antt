use Rattle.std.proofs.Common.{length, Ok, sym, ◌∙◌, ap, arith, w32}
use Rattle.std.proofs.lemmas.Bool.{eqb-true, eqb-false}
use Rattle.std.proofs.lemmas.Int.{to_z_pos}
use Rattle.ic_refs.proofs.ColumnNumberLemmas.{empty_chars, some_chars, number_empty, number_read, number_over}
use Rattle.ic_refs.proofs.column.number_of_letters.Goals as goal

pub returns-then-is_empty : goal.returns-then-is_empty
returns-then-is_empty c =
    sym (number_empty _ (empty_chars c.args.column.now (eqb-true (length c.args.column.now) 0 (sym c.is_empty.ensures ∙ c.if-is_empty.true))))

pub returns-in-None : goal.returns-in-None
returns-in-None c =
    let some = some_chars c.args.column.now c.utf8.column (eqb-false (length c.args.column.now) 0 (sym c.is_empty.ensures ∙ c.if-is_empty.false)) in
    ap Ok (to_z_pos w32 c.read_letters-number.result.0 (omega (arith, c.read_letters-number.ensures.small)))
    ∙ number_read _ _ _ some (sym c.if-not-is_ascii.ensures) (sym c.if-not-is_upper.ensures) c.read_letters-number.ensures.exact c.in-None.ensures.parts

pub returns-in-Some : goal.returns-in-Some
returns-in-Some c =
    let some = some_chars c.args.column.now c.utf8.column (eqb-false (length c.args.column.now) 0 (sym c.is_empty.ensures ∙ c.if-is_empty.false)) in
    number_over _ _ _ _ _ some (sym c.if-not-is_ascii.ensures) (sym c.if-not-is_upper.ensures) c.read_letters-number.ensures.exact c.in-Some.ensures.parts
