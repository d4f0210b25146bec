use Rattle.std.proofs.Common.{◌∙◌, [], Some, None, bytes_eq, chars, sym, ap, rules}
use Rattle.ic_laws.proofs.binding.FoldedTexts.{fold_step, fold_end}
use Rattle.ic_laws.proofs.scene.folds_to.Goals as goal

pub returns-in_default-past_folding : goal.returns-in_default-past_folding
returns-in_default-past_folding c =
    sym (sym c.loop-c.invariant.2 ∙ fold_step (chars c.loop-c.left.now) (chars c.in-Some.after.now) (chars c.loop-c.rest.now) c.in-Some.c None c.in-Some.ensures.parts c.in_default-past_folding.ensures)

pub loop-c-preserved : goal.loop-c-preserved
loop-c-preserved c = (
  search rules,
  search rules,
  sym (fold_step (chars c.loop-c.left.now) (chars c.in-Some.after.now) (chars c.loop-c.rest.now) c.in-Some.c (Some (chars c.in-Some-past_folding.unread.now)) c.in-Some.ensures.parts c.in-Some-past_folding.ensures)
      ∙ c.loop-c.invariant.2,
)

pub returns-in-None : goal.returns-in-None
returns-in-None c =
    sym (sym c.loop-c.invariant.2 ∙ (fold_end (chars c.loop-c.left.now) (chars c.loop-c.rest.now) c.in_default.ensures.parts ∙ ap (λ t. bytes_eq [] t) c.in-None.ensures.parts))

pub returns-in-Some-first_char : goal.returns-in-Some-first_char
returns-in-Some-first_char c =
    sym (sym c.loop-c.invariant.2 ∙ (fold_end (chars c.loop-c.left.now) (chars c.loop-c.rest.now) c.in_default.ensures.parts ∙ ap (λ t. bytes_eq [] t) c.in-Some-first_char.ensures.parts))
