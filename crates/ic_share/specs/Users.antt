-- Whose a line is: a user's word stands before its first tab, and their command line behind it.
use Rattle.std.specs.Prelude.{ℕ, List, [], ◌∷◌, Bool, ◌==◌, Option, Some, None, option_and_then, option_map, if◌then◌else◌}
use Rattle.std.specs.List.{after_first, before_first, list_any}
use Rattle.ic_laws.specs.Character.{tab}
use Rattle.ic_laws.specs.Lines.{unescaped}

-- a user, who is their text, and the command line that they sent
pub record Sent : Type 0 where
  pub user : List ℕ
  pub command : List ℕ

-- the user that a word spells: any text that isn't empty; none where the word has a wrong escape
abbrev pub user_of : List ℕ → Option (List ℕ)
user_of [] = None
user_of (c ∷ cs) = unescaped (c ∷ cs)

abbrev pub is_tab : ℕ → Bool
is_tab c = c == tab

-- what stands before the first tab of a line, and what stands behind it; none where it has no tab
abbrev pub parts_of : List ℕ → Option (List ℕ × List ℕ)
parts_of line = if list_any is_tab line then Some (before_first is_tab line, after_first is_tab line) else None

-- a command line, sent by the user of a word, if it spells one
abbrev pub sent_by : List ℕ → List ℕ → Option Sent
sent_by word command = option_map (λ user. record { user = user; command = command }) (user_of word)

-- Who sent a line, and which command line. A line without a tab is nobody's, and so is one whose first word spells no user.
abbrev pub sent_in : List ℕ → Option Sent
sent_in line = option_and_then (λ parts. sent_by parts.0 parts.1) (parts_of line)
