use Rattle.std.proofs.Common.{rules}
use Rattle.ic_tables.proofs.CompareLemmas.{front_here, front_none, front_other, front_more, front_no_more}
use Rattle.ic_tables.proofs.compare.past_folded.Goals as goal

pub returns-in_default-first_char : goal.returns-in_default-first_char
returns-in_default-first_char c =
    c.folding.invariant.3 (front_none _ _ _ _ c.in-Some.ensures.parts c.in_default-first_char.ensures.parts)

pub folding-preserved : goal.folding-preserved
folding-preserved c = (
  search rules,
  search rules,
  λ after h. c.folding.invariant.2 after (front_more _ _ _ _ _ _ c.in-Some-first_char.ensures.parts c.in-Ok.ensures h),
  λ h. c.folding.invariant.3 (front_no_more _ _ _ _ _ _ _ c.in-Some.ensures.parts c.in-Some-first_char.ensures.parts c.in-Ok.ensures h),
)

pub returns-in-Err : goal.returns-in-Err
returns-in-Err c =
    c.folding.invariant.3 (front_other _ _ _ _ _ _ _ c.in-Some.ensures.parts c.in-Some-first_char.ensures.parts c.in-Err.ensures)

pub returns : goal.returns
returns c = c.folding.invariant.2 _ (front_here _ _ c.in_default.ensures.parts)
