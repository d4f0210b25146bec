use Rattle.std.proofs.Common.{◌∙◌, chars, sym}
use Rattle.ic_laws.proofs.RunLemmas.{ends_with_rest, run_before_rest}
use Rattle.ic_input.specs.Number.{stands_before}
use Rattle.ic_input.proofs.NumberSteps.{from_start, unbegun}
use Rattle.ic_input.proofs.number.unsigned_number.Goals as goal

pub front_of-requires : goal.front_of-requires
front_of-requires c = ends_with_rest (stands_before c.decimal_separator.result) (chars c.args.text.now) (chars c.past_other-body.result.now) c.past_other-body.ensures

pub returns : goal.returns
returns c =
    let before = run_before_rest (stands_before c.decimal_separator.result) (chars c.args.text.now) (chars c.front_of.result.now) (chars c.past_other-body.result.now) c.past_other-body.ensures c.front_of.ensures in
    record { value = c.from_digits.ensures ∙ from_start c.args.locale.now (chars c.args.text.now) _ _ c.decimal_separator.result c.decimal_separator.ensures before c.past_other-body.ensures }

pub returns-then-not-may_begin : goal.returns-then-not-may_begin
returns-then-not-may_begin c = record { value = unbegun c.args.locale.now (chars c.args.text.now) (sym c.if-not-may_begin.ensures) }
