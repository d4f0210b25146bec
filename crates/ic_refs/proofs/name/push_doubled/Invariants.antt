use Rattle.std.proofs.Common.{◌≡◌, ◌++◌, chars, length, string_bytes}
use denote.Text.{Utf8}
use denote.Shadow.{shadow}
use Rattle.ic_laws.specs.SheetText.{doubled}
use Rattle.ic_refs.proofs.name.push_doubled.Given as goal

-- what is written so far, and the rest of the name doubled, are the whole name doubled
abbrev pub invariant-loop-c : goal.invariant-loop-c
invariant-loop-c l = shadow (Utf8 l.rest) × (chars (string_bytes l.out) ++ doubled (chars l.rest) ≡ chars (string_bytes l.fn.out) ++ doubled (chars l.fn.name))

abbrev pub decreases-loop-c : goal.decreases-loop-c
decreases-loop-c l = length l.rest
