use Rattle.std.proofs.Common.{◌≡◌, ℕ, List, None, chars, length}
use denote.Text.{Utf8}
use denote.Shadow.{shadow}
use Rattle.ic_laws.specs.SheetText.{name_in_quotes}
use Rattle.ic_refs.specs.Written.{ClosesAt}
use Rattle.ic_refs.proofs.sheet.closing_quote.Given as goal

-- what closes the name in what is left closes it in the whole text
abbrev pub invariant-loop-c : goal.invariant-loop-c
invariant-loop-c l = record {
  text : shadow (Utf8 l.rest);
  closes : (closing : List ℕ) → ClosesAt (chars l.rest) closing → ClosesAt (chars l.text) closing;
  none : name_in_quotes (chars l.rest) ≡ None → name_in_quotes (chars l.text) ≡ None;
}

abbrev pub decreases-loop-c : goal.decreases-loop-c
decreases-loop-c l = length l.rest
