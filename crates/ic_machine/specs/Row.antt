-- The table of one subject, and how the tables of all subjects are one.
use Rattle.std.specs.Prelude.{ℕ, List, [], ◌∷◌, bytes_eq, Option, Some, None, option_map}
use Rattle.std.specs.List.{find}
use Rattle.ic_machine.specs.Word.{AllSaid, Words, words_said}

-- a command of a subject: its name, what its words are, and what they make
pub record Row (C : Type 0) : Type 0 where
  pub name : List ℕ
  pub words : Words
  pub command : AllSaid words → C

-- the same command among those of all subjects
abbrev pub row_in : {C D : Type 0} → (C → D) → Row C → Row D
row_in subject row = record { name = row.name; words = row.words; command = λ said. subject (row.command said) }

abbrev pub joined : {C : Type 0} → Option (Option C) → Option C
joined None = None
joined (Some said) = said

-- by the English words of the error values
module _ (english : List (List ℕ)) {C : Type 0} where
  -- what words after a name are by a table: none where the table lacks the name, and inside that, none where the words
  -- don't fit it
  abbrev pub named : List (Row C) → List ℕ → List (List ℕ) → Option (Option C)
  named rows name words = option_map (λ row. option_map row.command (words_said english row.words words)) (find (λ row. bytes_eq row.name name) rows)

  -- the command that the words of a line are
  abbrev pub spelled : List (Row C) → List (List ℕ) → Option C
  spelled rows [] = None
  spelled rows (name ∷ words) = joined (named rows name words)
