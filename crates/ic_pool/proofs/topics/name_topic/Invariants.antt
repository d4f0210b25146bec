use Rattle.std.proofs.Common.{◌≡◌, ◌<◌, ◌^◌, chars, length}
use denote.Text.{Utf8}
use denote.Shadow.{shadow}
use Rattle.ic_laws.specs.Name.{fold}
use Rattle.ic_pool.specs.Topics.{all_mixed}
use Rattle.ic_pool.proofs.topics.name_topic.Given as goal

-- what is mixed, with what is left to mix
abbrev pub invariant-loop-c : goal.invariant-loop-c
invariant-loop-c l = shadow (Utf8 l.rest) × (all_mixed l.out (fold (chars l.rest)) ≡ all_mixed 0 (fold (chars l.name))) × (l.out < 2 ^ 40)

abbrev pub decreases-loop-c : goal.decreases-loop-c
decreases-loop-c l = length l.rest
