use Rattle.std.proofs.Common.{◌≡◌, ◌++◌, flat_map, string_bytes, take}
use Rattle.ic_run.specs.Counts.{told_some}
use Rattle.ic_run.proofs.counts.push_each.Given as goal

-- what is told of those so far
abbrev pub invariant-loop-refusal : goal.invariant-loop-refusal
invariant-loop-refusal l = string_bytes l.text ≡ string_bytes l.initial.text ++ flat_map (λ refusal. told_some l.replies refusal.now) (take l.refusal-index l.refusals)
