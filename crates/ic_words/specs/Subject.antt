-- The one subject that may have a name.
use Rattle.std.specs.Prelude.{ℕ, List, length, slice_index, cond, ◌==◌}
use Rattle.ic_words.specs.declared.command.subject.Subject.{Subject}
use Rattle.ic_words.specs.declared.command.subject.Subject.TheVariants.{Sheets, Definitions, Notation, Writing, Reading, Extending, Styles, Layout, Tabs, Arrays}

-- among the names of one length, by one letter: 95 is _, 97 a, 99 c, 100 d, 101 e, 102 f, 103 g, 108 l, 109 m, 110 n, 111 o,
-- 112 p, 114 r, 115 s, 116 t, 121 y
module _ (letter : ℕ) where
  abbrev pub of_nine : Subject
  of_nine = cond (letter == 101) Sheets (cond (letter == 108) Arrays (cond (letter == 116) Extending Tabs))

  abbrev pub of_ten : Subject
  of_ten = cond (letter == 109) Sheets Notation

  abbrev pub of_twelve : Subject
  of_twelve = cond (letter == 116) Notation Sheets

  abbrev pub of_thirteen : Subject
  of_thirteen = cond (letter == 100) Definitions (cond (letter == 111) Layout (cond (letter == 114) Styles Reading))

  abbrev pub of_fourteen : Subject
  of_fourteen = cond (letter == 114) Layout Writing

  abbrev pub of_fifteen : Subject
  of_fifteen = cond (letter == 100) Sheets (cond (letter == 112) Extending (cond (letter == 114) Arrays Tabs))

  abbrev pub of_sixteen : Subject
  of_sixteen = cond (letter == 95) Sheets (cond (letter == 97) Definitions (cond (letter == 100) Layout (cond (letter == 110) Notation (cond (letter == 121) Styles Reading))))

  abbrev pub of_seventeen : Subject
  of_seventeen = cond (letter == 112) Arrays Layout

  abbrev pub of_eighteen : Subject
  of_eighteen = cond (letter == 103) Styles Tabs

  abbrev pub of_nineteen : Subject
  of_nineteen = cond (letter == 102) Definitions (cond (letter == 108) Styles (cond (letter == 112) Extending Tabs))

  abbrev pub of_twenty : Subject
  of_twenty = cond (letter == 100) Sheets (cond (letter == 103) Styles Arrays)

  abbrev pub of_twenty_one : Subject
  of_twenty_one = cond (letter == 99) Reading (cond (letter == 102) Tabs (cond (letter == 109) Sheets (cond (letter == 116) Writing Definitions)))

  abbrev pub of_twenty_two : Subject
  of_twenty_two = cond (letter == 103) Styles Arrays

  abbrev pub of_twenty_three : Subject
  of_twenty_three = cond (letter == 103) Reading Writing

  abbrev pub of_twenty_four : Subject
  of_twenty_four = cond (letter == 99) Writing (cond (letter == 109) Reading (cond (letter == 115) Sheets Tabs))

-- The length of a name and one letter of it tell the subjects of all commands apart. Of a name that no command has it tells any.
abbrev pub told : List ℕ → ℕ → Subject
told name size =
    cond (size == 9) (of_nine (slice_index name 7)) (
    cond (size == 10) (of_ten (slice_index name 0)) (
    cond (size == 12) (of_twelve (slice_index name 2)) (
    cond (size == 13) (of_thirteen (slice_index name 4)) (
    cond (size == 14) (of_fourteen (slice_index name 4)) (
    cond (size == 15) (of_fifteen (slice_index name 0)) (
    cond (size == 16) (of_sixteen (slice_index name 13)) (
    cond (size == 17) (of_seventeen (slice_index name 0)) (
    cond (size == 18) (of_eighteen (slice_index name 0)) (
    cond (size == 19) (of_nineteen (slice_index name 9)) (
    cond (size == 20) (of_twenty (slice_index name 0)) (
    cond (size == 21) (of_twenty_one (slice_index name 4)) (
    cond (size == 22) (of_twenty_two (slice_index name 0)) (
    cond (size == 23) (of_twenty_three (slice_index name 0)) (
    cond (size == 24) (of_twenty_four (slice_index name 7)) (
    cond (size == 26) Reading (
    Sheets))))))))))))))))

abbrev pub subject_of : List ℕ → Subject
subject_of name = told name (length name)
