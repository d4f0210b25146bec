use Rattle.std.proofs.Common.{arith}
use Rattle.ic_input.proofs.GroupLemmas.{grouped_more, small_grouped}
use Rattle.ic_input.proofs.format.+push_grouped.Goals as goal

pub returns-then-n-lt1000 : goal.returns-then-n-lt1000
returns-then-n-lt1000 t c = rw (small_grouped c.args.group c.args.n (omega arith)) c.push_number.ensures

pub returns : goal.returns
returns t c =
    grouped_more _ _ _ _ c.args.group c.args.n (omega arith) (omega arith) c.in_ok-push_grouped.ensures c.in_ok-push_char.ensures.ok c.in_ok-push_three_digits.ensures
