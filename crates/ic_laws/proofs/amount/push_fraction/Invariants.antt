use Rattle.std.proofs.Common.{◌≡◌, ◌++◌, ◌≤◌, ◌<◌, ◌^◌, chars, string_bytes}
use Rattle.ic_laws.specs.Amount.{fraction_digits}
use Rattle.ic_laws.proofs.amount.push_fraction.Given as goal

-- what is written and the digits of what is left are those of the fraction
abbrev pub invariant-loop-rest : goal.invariant-loop-rest
invariant-loop-rest l = record {
  written : chars (string_bytes l.text) ++ fraction_digits l.places l.rest ≡ chars (string_bytes l.fn.text) ++ fraction_digits 9 l.fraction;
  few : l.places ≤ 9;
  small : l.rest < 10 ^ l.places;
}

abbrev pub decreases-loop-rest : goal.decreases-loop-rest
decreases-loop-rest l = l.places
