-- Runs of lines over any machine: the replies and what is left.
use Rattle.std.specs.Prelude.{ℕ, List, [], ◌∷◌, ◌++◌}

-- a machine answers a line by the bytes of its reply, and leaves a state
abbrev pub Machine : Type 0 → Type 0
Machine S = S → List ℕ → S × List ℕ

module _ {S : Type 0} (machine : Machine S) where
  -- the state that lines leave
  abbrev pub after : S → List (List ℕ) → S
  after state [] = state
  after state (line ∷ lines) = after (machine state line).0 lines

  -- the bytes of the replies to lines
  abbrev pub replies : S → List (List ℕ) → List ℕ
  replies state [] = []
  replies state (line ∷ lines) = (machine state line).1 ++ replies (machine state line).0 lines
