use Rattle.std.proofs.Common.{◌≡◌, ◌+◌, ◌<◌, ◌∙◌, ap, subst, sym, take}
use Rattle.std.specs.Option.{option_copied}
use Rattle.ic_parts.proofs.CopyLemmas.{next_style, within}
use Rattle.ic_parts.proofs.copies.copy_styles.Goals as goal
use Rattle.ic_parts.proofs.copies.copy_styles.Goals.{in-Some+in_ok-get_style_index_or_create, in_default}

pub loop-index-preserved : goal.loop-index-preserved
loop-index-preserved c = elim c.match-get_style.branch as (λ b. c.match-get_style.out ≡ take (c.loop-index.index + 1) c.args.styles.now) [
  | in-Some+in_ok-get_style_index_or_create w ↦
      w.out-is
      ∙ next_style c.args.styles.now c.loop-index.out w.get_style_index_or_create.new.self c.loop-index.index w.in_ok-get_style_index_or_create.field-0 w.in-Some.style.now c.len-index-end.ensures.styles
      (sym c.get_style.ensures ∙ ap option_copied w.in-Some.is) c.loop-index.invariant w.in_ok-get_style_index_or_create.ensures.placed
  | in_default w ↦
      absurd (within c.args.styles.now c.loop-index.index (subst (λ n. c.loop-index.index < n) c.len-index-end.ensures.exact c.loop-index-test.true)
      (sym c.get_style.ensures ∙ ap option_copied w.in_default.is))
]
