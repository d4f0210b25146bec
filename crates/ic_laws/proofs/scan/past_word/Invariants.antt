use Rattle.std.proofs.Common.{◌≡◌, ◌-◌, chars, drop, length, IsCharBoundary}
use Rattle.ic_laws.specs.Scan.{is_word_character, past_run}
use Rattle.ic_laws.proofs.scan.past_word.Given as goal

-- what is left begins with a character, and ends as the whole text does
abbrev pub invariant-loop-at : goal.invariant-loop-at
invariant-loop-at l = IsCharBoundary l.text l.at × (past_run is_word_character (chars (drop l.at l.text)) ≡ past_run is_word_character (chars l.text))

abbrev pub decreases-loop-at : goal.decreases-loop-at
decreases-loop-at l = length l.text - l.at
