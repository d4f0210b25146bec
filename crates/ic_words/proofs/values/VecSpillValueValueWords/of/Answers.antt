use Rattle.std.proofs.Common.{List, not, chars, ap, sym, subst, ◌∙◌}
use Rattle.ic_cells.specs.declared.value.SpillValue.{SpillValue}
use Rattle.ic_tables.specs.Words.{error_words}
use Rattle.ic_words.proofs.ValueLemmas.{AreRead, at_end, at_start, no_value, one_more, some_spills}
use Rattle.ic_words.proofs.values.VecSpillValueValueWords.of.Goals as goal

pub loop-left-init : goal.loop-left-init
loop-left-init c =
    subst (λ (vs : List SpillValue). AreRead (error_words c.args.english.now) vs c.args.rest c.args.rest) (sym c.new-values.ensures.items) (at_start (error_words c.args.english.now) c.args.rest)

pub returns-in_default-2 : goal.returns-in_default-2
returns-in_default-2 c =
    let english = error_words c.args.english.now in
    sym
    (some_spills english c.args.rest (c.is_none.ensures ∙ ap not c.if-is_none.false)
    ∙ no_value english c.loop-left.values.items c.args.rest c.loop-left.left c.loop-left.invariant c.in-Some.line (chars c.first_word.result.0.now) c.first_word.result.1 c.in-Some.is c.first_word.ensures (sym c.in_ok-value.ensures ∙ c.in_default-2.is))

pub loop-left-preserved : goal.loop-left-preserved
loop-left-preserved c =
    let english = error_words c.args.english.now in
    subst (λ (vs : List SpillValue). AreRead english vs c.args.rest c.first_word.result.1) (sym c.in_ok-push.ensures.items)
    (one_more english c.loop-left.values.items c.args.rest c.loop-left.left c.loop-left.invariant c.in-Some.line (chars c.first_word.result.0.now) c.first_word.result.1 c.in-Some.is c.first_word.ensures c.in-Some-2.value (sym c.in_ok-value.ensures ∙ c.in-Some-2.is))

pub returns : goal.returns
returns c =
    let english = error_words c.args.english.now in
    sym
    (some_spills english c.args.rest (c.is_none.ensures ∙ ap not c.if-is_none.false)
    ∙ at_end english c.loop-left.values.items c.args.rest c.loop-left.left c.loop-left.invariant c.in_default.is)
