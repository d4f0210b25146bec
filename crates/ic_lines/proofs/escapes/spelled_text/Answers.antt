use Rattle.std.proofs.Common.{◌++◌, ◌∷◌, chars, ap, ◌∙◌, option_map, rules}
use Rattle.std.proofs.lemmas.Str.{chars-nil}
use Rattle.ic_laws.specs.Lines.{unescaped}
use Rattle.ic_lines.proofs.EscapeLemmas.{spells_first, spells_plain, spells_escape}
use Rattle.ic_lines.proofs.escapes.spelled_text.Goals as goal

pub loop-c-init : goal.loop-c-init
loop-c-init c = (c.utf8.word, spells_first _ (chars c.args.word.now) (ap chars c.in_ok-text.ensures.bytes ∙ chars-nil))

pub loop-c-preserved-then-c-ne92 : goal.loop-c-preserved-then-c-ne92
loop-c-preserved-then-c-ne92 c = (
  search rules,
  ap (λ so. option_map (λ t. so ++ t) (unescaped (chars c.in-Some.after.now))) c.in_ok-push_char.ensures.ok
      ∙ spells_plain _ (chars c.loop-c.rest.now) _ _ c.in-Some.c c.in-Some.ensures.parts c.if-c-ne92.true c.loop-c.invariant.1,
)

pub loop-c-preserved : goal.loop-c-preserved
loop-c-preserved c = (
  search rules,
  ap (λ so. option_map (λ t. so ++ t) (unescaped (chars c.in-Some-first_char.after.now))) c.in_ok-push_char-2.ensures.ok
      ∙ spells_escape _ (chars c.loop-c.rest.now) _ _ c.in-Some-first_char.d c.in-Some-meaning.meant
      (c.in-Some.ensures.parts ∙ ap (λ x. x ∷ chars c.in-Some.after.now) c.if-c-ne92.false ∙ ap (λ v. 92 ∷ v) c.in-Some-first_char.ensures.parts) c.in-Some-meaning.ensures c.loop-c.invariant.1,
)
