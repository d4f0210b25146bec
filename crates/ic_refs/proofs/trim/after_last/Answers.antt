use Rattle.std.proofs.Common.{chars, sym, rules}
use Rattle.ic_refs.proofs.FormulaTrimLemmas.{ends_first, ends_blank, ends_other}
use Rattle.ic_refs.proofs.trim.after_last.Goals as goal

pub loop-c-init : goal.loop-c-init
loop-c-init c = (c.utf8.text, c.utf8.text, ends_first (chars c.args.text.now))

pub loop-c-preserved-then-not-is_blank : goal.loop-c-preserved-then-not-is_blank
loop-c-preserved-then-not-is_blank c = (
  search rules,
  search rules,
  ends_other _ _ (chars c.loop-c.rest.now) _ c.in-Some.c c.loop-c.invariant.2 c.in-Some.ensures.parts (sym c.if-not-is_blank.ensures),
)

pub loop-c-preserved : goal.loop-c-preserved
loop-c-preserved c = (
  search rules,
  c.loop-c.invariant.1,
  ends_blank _ _ (chars c.loop-c.rest.now) _ c.in-Some.c c.loop-c.invariant.2 c.in-Some.ensures.parts (sym c.if-not-is_blank.ensures),
)
