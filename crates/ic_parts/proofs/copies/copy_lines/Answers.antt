use Rattle.std.proofs.Common.{◌∙◌}
use Rattle.std.proofs.lemmas.Cmp.{int_cmp_total}
use Rattle.std.specs.FinMap.{int_cmp-IsAntisymmetric}
use Rattle.ic_parts.proofs.CopyLemmas.{inserted_all, inserted_last, inserted_next}
use Rattle.ic_parts.proofs.copies.copy_lines.Goals as goal

pub loop-number-init : goal.loop-number-init
loop-number-init g c =
    inserted_all int_cmp_total int_cmp-IsAntisymmetric c.as_map.result.now c.args.lines.now c.new-out.result c.into_iter-number-iterator.result c.iter-number-items.ensures.ordered c.as_map.ensures c.new-out.ensures
    (c.into_iter-number-iterator.ensures.into_iter_gives ∙ c.iter-number-items.ensures.rest)

pub loop-number-preserved : goal.loop-number-preserved
loop-number-preserved g c =
    inserted_next c.args.lines.now c.loop-number.out c.put_line.new.lines c.loop-number.number-iterator c.next.new.self c.in-Some.number.now c.in-Some.props.now c.loop-number.invariant c.in-Some.ensures.steps c.in_ok-put_line.ensures

pub returns : goal.returns
returns g c = inserted_last c.args.lines.now c.loop-number.out c.loop-number.number-iterator c.loop-number.invariant c.in-None.ensures.steps.0
