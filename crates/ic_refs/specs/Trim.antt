-- Where the blanks at the end of a text begin.
use Rattle.std.specs.Prelude.{◌≡◌, ℕ, List, [], ◌++◌, true, reverse}
use Rattle.std.specs.List.{list_all}
use Rattle.ic_laws.specs.Scan.{is_blank, past_run}

-- a text that doesn't end with a blank
abbrev pub IsTrimmed : List ℕ → Type 0
IsTrimmed text = past_run is_blank (reverse text) ≡ reverse text

-- so far the text is a trimmed front, blanks, and a rest; end stands after the front
pub record EndsSoFar (text end rest : List ℕ) : Type 0 where
  pub front : List ℕ
  pub blanks : List ℕ
  pub whole : text ≡ front ++ end
  pub beyond : end ≡ blanks ++ rest
  pub trimmed : IsTrimmed front
  pub blank : list_all is_blank blanks ≡ true

-- the text is a trimmed front and blanks
abbrev pub EndsAt : List ℕ → List ℕ → Type 0
EndsAt text end = EndsSoFar text end []
