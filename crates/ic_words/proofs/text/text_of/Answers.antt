use Rattle.std.proofs.Common.{◌≡◌, chars, false, sym}
use Rattle.ic_words.specs.Words.{has_escape}
use Rattle.ic_words.proofs.WordLemmas.{spells_itself}
use Rattle.ic_words.proofs.text.text_of.Goals as goal

pub invariant_of-result : goal.invariant_of-result
invariant_of-result c =
    let none : has_escape (chars c.args.word.now) ≡ false = cc in
    record { spelled = spells_itself (chars c.args.word.now) none; copied = sym none }

pub returns-then-not-has_escape : goal.returns-then-not-has_escape
returns-then-not-has_escape c =
    let none : has_escape (chars c.args.word.now) ≡ false = cc in sym (spells_itself (chars c.args.word.now) none)
