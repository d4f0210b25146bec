use Rattle.std.proofs.Common.{◌∙◌, ap, ap₂, arith, sym}
use Rattle.std.specs.Int.{from_le_bytes, w64}
use Rattle.ic_pool.specs.Hash.{mixed, mixed_words}
use Rattle.ic_pool.proofs.HashLemmas.{word_mixed}
use Rattle.ic_pool.proofs.hashed.mixed_words.Goals as goal

pub loop-word-preserved : goal.loop-word-preserved
loop-word-preserved c =
    let cases = c.in-Some.ensures.cases in
    ap₂ mixed_words (c.mixed-out.ensures ∙ ap (mixed c.loop-word.out) (c.from_le_bytes.ensures ∙ ap (from_le_bytes w64) cases.0)) cases.1
    ∙ sym (word_mixed c.loop-word.out c.loop-word.rest.now (omega (arith, cases.2))) ∙ c.loop-word.invariant
