use Rattle.std.proofs.Common.{◌≡◌, bytes_eq, chars, drop, find}
use Rattle.ic_tables.proofs.vocabulary.words_among.Given as goal

-- what is left decides
abbrev pub invariant-loop-i : goal.invariant-loop-i
invariant-loop-i l = find (λ x. bytes_eq x.code (chars l.code)) (drop l.i l.languages) ≡ find (λ x. bytes_eq x.code (chars l.code)) l.languages
