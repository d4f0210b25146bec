use Rattle.std.proofs.Common.{◌≡◌, chars, ap, sym, subst, ◌∙◌}
use Rattle.ic_cells.specs.declared.style.Color.TheVariants as colors
use Rattle.ic_machine.specs.Word.{color_said}
use Rattle.ic_words.proofs.ChoiceLemmas.{color_word, no_color, one_color}
use Rattle.ic_words.proofs.word.OptionWordTextWord.of.Goals as goal

pub returns-then-eq-clause-exact : goal.returns-then-eq-clause-exact
returns-then-eq-clause-exact c =
    color_word (chars c.args.word.now) c.in-Some.text colors.None (sym c.in_ok-text.ensures ∙ c.in-Some.is)
    (no_color c.as_str.result.now (sym c.eq.ensures ∙ c.if-eq.true) ∙ ap color_said c.as_str.ensures)

pub returns-clause-exact : goal.returns-clause-exact
returns-clause-exact c =
    color_word (chars c.args.word.now) c.in-Some.text (colors.Rgb c.in-Some.text) (sym c.in_ok-text.ensures ∙ c.in-Some.is)
    (subst (λ t. colors.Rgb t ≡ color_said t) c.as_str.ensures (one_color c.as_str.result.now c.as_str.utf8 (sym c.eq.ensures ∙ c.if-eq.false)))
