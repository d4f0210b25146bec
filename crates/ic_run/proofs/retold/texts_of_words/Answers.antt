use Rattle.std.proofs.Common.{◌∙◌, ◌<◌, ◌+◌, List, ℕ, [], arith, chars, length, subst, sym}
use Rattle.ic_run.proofs.RetoldLemmas.{AreSoFar, next_so_far, no_texts_of}
use Rattle.std.proofs.Common.{map}
use Rattle.ic_run.proofs.retold.texts_of_words.Goals as goal

pub returns-in-None : goal.returns-in-None
returns-in-None c line same =
    let less : c.loop-word.word-index < length c.args.words.now = omega (arith, c.loop-word-test.true, c.loop-word.auto.word-index-end) in
    c.new.ensures.items ∙ no_texts_of (λ w. chars w.now) c.args.words.now c.loop-word.word-index (record { ref_ptr = (0, 0); now = [] }) c.loop-word.texts.items line less same c.loop-word.invariant (sym c.in_ok-text.ensures.exact ∙ c.in-None.is)

pub loop-word-preserved : goal.loop-word-preserved
loop-word-preserved c =
    let less : c.loop-word.word-index < length c.args.words.now = omega (arith, c.loop-word-test.true, c.loop-word.auto.word-index-end) in
    let far = next_so_far (λ w. chars w.now) c.args.words.now c.loop-word.word-index (record { ref_ptr = (0, 0); now = [] }) c.loop-word.texts.items c.in-Some.text less c.loop-word.invariant (sym c.in_ok-text.ensures.exact ∙ c.in-Some.is) in
    subst (λ (items : List (List ℕ)). AreSoFar (map (λ w. chars w.now) c.args.words.now) (c.loop-word.word-index + 1) items) (sym c.in_ok-push-in-Some.ensures.items) far
