use Rattle.std.proofs.Common.{◌≡◌, ◌++◌, chars, length, string_bytes}
use denote.Text.{Utf8}
use denote.Shadow.{shadow}
use Rattle.ic_tree.specs.Printed.{doubled}
use Rattle.ic_tree.proofs.constant.push_doubled.Given as goal

-- what is written so far, and the rest of the text doubled, are the whole text doubled
abbrev pub invariant-loop-c : goal.invariant-loop-c
invariant-loop-c l = shadow (Utf8 l.rest) × (chars (string_bytes l.out) ++ doubled (chars l.rest) ≡ chars (string_bytes l.fn.out) ++ doubled (chars l.fn.text))

abbrev pub decreases-loop-c : goal.decreases-loop-c
decreases-loop-c l = length l.rest
