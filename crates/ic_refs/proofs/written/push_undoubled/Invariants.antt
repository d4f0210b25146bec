use Rattle.std.proofs.Common.{◌≡◌, ◌++◌, chars, length, string_bytes}
use denote.Text.{Utf8}
use denote.Shadow.{shadow}
use Rattle.ic_refs.specs.Written.{undoubled}
use Rattle.ic_refs.proofs.written.push_undoubled.Given as goal

-- what came out so far, and the rest of the name, are the whole name
abbrev pub invariant-loop-c : goal.invariant-loop-c
invariant-loop-c l =
    shadow (Utf8 l.rest) × (chars (string_bytes l.out) ++ undoubled (chars l.rest) ≡ chars (string_bytes l.fn.out) ++ undoubled (chars l.fn.inside))

abbrev pub decreases-loop-c : goal.decreases-loop-c
decreases-loop-c l = length l.rest
