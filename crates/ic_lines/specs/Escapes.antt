-- Which characters are written by an escape, and which words have a wrong one.
use Rattle.std.specs.Prelude.{◌≡◌, ℕ, Bool, ◌||◌, ◌==◌, List, [], ◌∷◌, ◌++◌, None, IsSome}
use Rattle.ic_laws.specs.Character.{backslash, carriage_return, line_feed, tab}
use Rattle.ic_laws.specs.Lines.{escape_meaning, unescaped}

-- a character that is written by an escape
abbrev pub is_escaped : ℕ → Bool
is_escaped c = c == backslash || c == tab || c == line_feed || c == carriage_return

-- no escape's second character stands first
abbrev pub GoesOnWrong : List ℕ → Type 0
GoesOnWrong [] = Unit {0}
GoesOnWrong (c ∷ cs) = escape_meaning c ≡ None

-- a backslash that begins no escape: what stands before it spells a text, and the rest goes on wrong
pub record HasWrongEscape (word : List ℕ) : Type 0 where
  pub front : List ℕ
  pub rest : List ℕ
  pub whole : word ≡ front ++ backslash ∷ rest
  pub spelled : IsSome (unescaped front)
  pub wrong : GoesOnWrong rest
