-- The table of all commands, and the rows that each subject has in it.
use Rattle.std.proofs.Common.{◌≡◌, ◌≢◌, ℕ, List, [], ◌∷◌, ◌++◌, map, Bool, true, false, ◌&&◌, ◌||◌, Option, Some, None, IsUtf8, bytes_eq, chars, codes, option_map, option_and_then, refl, rules, ap, subst, sym, ◌∙◌, inl, inr}
use Rattle.std.specs.List.{AllByRecursion, find, list_all}
use Rattle.std.proofs.lemmas.Bool.{and_parts, cases_Bool, false_from_ne_true}
use Rattle.std.proofs.lemmas.Slice.Eq.{bytes_eq-Decides}
use Rattle.ic_laws.specs.Lines.{word_texts}
use Rattle.ic_machine.specs.Command as laws
use Rattle.ic_machine.specs.Command.{commands}
use Rattle.ic_machine.specs.Row.{Row, joined, named, row_in}
use Rattle.ic_machine.specs.Word.{Done, Many, OfAmount, OfBool, OfColor, OfFlag, OfIndex, OfPosition, OfScope, OfSpill, OfState, OfText, OfValue, Then, WordForm, Words, all_said, said, words_said}
use Rattle.ic_machine.specs.subjects.Arrays.{Arrays, array_rows}
use Rattle.ic_machine.specs.subjects.Definitions.{definition_rows}
use Rattle.ic_machine.specs.subjects.Extending.{extending_rows}
use Rattle.ic_machine.specs.subjects.Layout.{layout_rows}
use Rattle.ic_machine.specs.subjects.Notation.{notation_rows}
use Rattle.ic_machine.specs.subjects.Reading.{reading_rows}
use Rattle.ic_machine.specs.subjects.Sheets.{sheet_rows}
use Rattle.ic_machine.specs.subjects.Styles.{style_rows}
use Rattle.ic_machine.specs.subjects.Tabs.{tab_rows}
use Rattle.ic_machine.specs.subjects.Writing.{writing_rows}
use Rattle.ic_words.specs.Subject.{subject_of}
use Rattle.ic_words.specs.Words.{copies_values}
use Rattle.ic_words.specs.declared.command.subject.Subject.{Subject}
use Rattle.ic_words.specs.declared.command.subject.Subject.TheVariants as subjects
use Rattle.ic_words.specs.subjects.Arrays.{spill_put_said, value_put_said}
use Rattle.ic_words.proofs.AsciiLemmas.{found_same, has_ascii_names, not_found}
use Rattle.ic_machine.proofs.as_core.CoreLines.{option_map-both as map_map}

-- Where no word of a command is a value, the English words of the error values don't matter. ----

abbrev is_plain : WordForm → Bool
is_plain OfValue = false
is_plain OfSpill = false
is_plain form = true

abbrev are_plain : Words → Bool
are_plain Done = true
are_plain (Then form others) = is_plain form && are_plain others
are_plain (Many form) = false

-- each row has no value among its words, or a name of those that have
abbrev known_rows : {D : Type 0} → List (Row D) → Bool
known_rows {D} rows = list_all (λ (row : Row D). are_plain row.words || copies_values row.name) rows

module _ (english : List (List ℕ)) where
  said_same : (form : WordForm) (text : List ℕ) → is_plain form ≡ true → said english form text ≡ said [] form text
  said_same OfText text h = refl
  said_same OfIndex text h = refl
  said_same OfPosition text h = refl
  said_same OfAmount text h = refl
  said_same OfBool text h = refl
  said_same OfScope text h = refl
  said_same OfValue text h = cc
  said_same OfSpill text h = cc
  said_same OfFlag text h = refl
  said_same OfColor text h = refl
  said_same OfState text h = refl

  all_same : (words : Words) (texts : List (List ℕ)) → are_plain words ≡ true → all_said english words texts ≡ all_said [] words texts
  all_same Done [] h = refl
  all_same Done (text ∷ texts) h = refl
  all_same (Then form others) [] h = refl
  all_same (Then form others) (text ∷ texts) h =
      let p = and_parts (is_plain form) (are_plain others) h in rw (said_same form text p.0, all_same others texts p.1) refl
  all_same (Many form) texts h = cc

  texts_same : (words : Words) (texts : Option (List (List ℕ))) → are_plain words ≡ true → option_and_then (all_said english words) texts ≡ option_and_then (all_said [] words) texts
  texts_same words None h = refl
  texts_same words (Some texts) h = all_same words texts h

  plain_by_name : (plain : Bool) (has name : List ℕ) → bytes_eq has name ≡ true → (plain || copies_values has) ≡ true → copies_values name ≡ false → plain ≡ true
  plain_by_name true has name e h other = refl
  plain_by_name false has name e h other = sym other ∙ ap copies_values (sym ((bytes_eq-Decides has name).0 e)) ∙ h

  named_same : {D : Type 0} (rows : List (Row D)) (name : List ℕ) (words : List (List ℕ)) → known_rows rows ≡ true → copies_values name ≡ false → named [] rows name words ≡ named english rows name words
  named_same [] name words h other = refl
  named_same (row ∷ rows) name words h other =
      let p = and_parts (are_plain row.words || copies_values row.name) (known_rows rows) h in
      elim (cases_Bool (bytes_eq row.name name)) [
        | inl e ↦
            rw e (ap (λ o. Some (option_map row.command o)) (sym (texts_same row.words (word_texts words) (plain_by_name (are_plain row.words) row.name name e p.0 other))))
        | inr e ↦ rw e (named_same rows name words p.1 other)
      ]

-- Names are ASCII, so it is the same to find them by bytes or by characters. ----

ascii_names : has_ascii_names (λ (row : Row laws.Command). row.name) commands ≡ true
unfolding commands
ascii_names = refl

found_same_named : (english : List (List ℕ)) (name : List ℕ) (words : List (List ℕ)) → IsUtf8 name → named english commands (chars name) words ≡ named english commands name words
found_same_named english name words u = ap (λ (o : Option (Row laws.Command)). option_map (λ (row : Row laws.Command). option_map row.command (words_said english row.words words)) o) (found_same (λ (row : Row laws.Command). row.name) commands name u ascii_names)

-- The rows are those of the subjects, one after another ----

abbrev pub from_arrays : List (Row laws.Command)
from_arrays = map (row_in laws.OnArrays) array_rows

abbrev pub from_tabs : List (Row laws.Command)
from_tabs = map (row_in laws.OnTabs) tab_rows ++ from_arrays

abbrev pub from_layout : List (Row laws.Command)
from_layout = map (row_in laws.OnLayout) layout_rows ++ from_tabs

abbrev pub from_styles : List (Row laws.Command)
from_styles = map (row_in laws.OnStyles) style_rows ++ from_layout

abbrev pub from_extending : List (Row laws.Command)
from_extending = map (row_in laws.OnExtending) extending_rows ++ from_styles

abbrev pub from_reading : List (Row laws.Command)
from_reading = map (row_in laws.OnReading) reading_rows ++ from_extending

abbrev pub from_writing : List (Row laws.Command)
from_writing = map (row_in laws.OnWriting) writing_rows ++ from_reading

abbrev pub from_notation : List (Row laws.Command)
from_notation = map (row_in laws.OnNotation) notation_rows ++ from_writing

abbrev pub from_definitions : List (Row laws.Command)
from_definitions = map (row_in laws.OnDefinitions) definition_rows ++ from_notation

all_known : known_rows commands ≡ true
unfolding commands
all_known = refl

-- a name that isn't one of those with values has the same command by whatever English words of the error values
pub known_named : (english : List (List ℕ)) (name : List ℕ) (words : List (List ℕ)) → IsUtf8 name → copies_values name ≡ false → named [] commands name words ≡ named english commands (chars name) words
known_named english name words u other = named_same english commands name words all_known other ∙ sym (found_same_named english name words u)

-- The two commands whose words are values ----

pub not_values : (name : List ℕ) → name ≢ codes "put_formula_value" → name ≢ codes "put_spill" → copies_values name ≡ false
not_values name h k =
    rw (
      false_from_ne_true (bytes_eq (codes "put_formula_value") name) (λ e. h (sym ((bytes_eq-Decides (codes "put_formula_value") name).0 e))),
      false_from_ne_true (bytes_eq (codes "put_spill") name) (λ e. k (sym ((bytes_eq-Decides (codes "put_spill") name).0 e))),
    ) refl

-- the subject alone whose commands may have values for words
pub plain_told : (name : List ℕ) → subject_of name ≢ subjects.Arrays → copies_values name ≡ false
plain_told name other =
    not_values name (λ is. other (ap subject_of is)) (λ is. other (ap subject_of is))

pub other_than : (name values : List ℕ) → copies_values values ≡ true → copies_values name ≡ false → name ≢ values
other_than name values h other is = let no : false ≡ true = sym other ∙ ap copies_values is ∙ h in cc

module _ (english : List (List ℕ)) (words : List (List ℕ)) (name : List ℕ) where
  pub value_named : name ≡ codes "put_formula_value" → value_put_said english words ≡ joined (named english array_rows name words)
  value_named is = ap (λ n. joined (named english array_rows n words)) (sym is)

  pub spill_named : name ≡ codes "put_spill" → spill_put_said english words ≡ joined (named english array_rows name words)
  spill_named is = ap (λ n. joined (named english array_rows n words)) (sym is)

  pub plain_named : copies_values name ≡ false → named [] array_rows name words ≡ named english array_rows name words
  plain_named other = named_same english array_rows name words refl other

-- The command of the one subject that may have the name ----

pub unnamed : {C : Type 0} (rows : List (Row C)) (name : List ℕ) (words : List (List ℕ)) → AllByRecursion (λ (row : Row C). name ≢ row.name) rows → None ≡ joined (named [] rows name words)
unnamed {C} rows name words h = rw (not_found (λ (row : Row C). row.name) rows name h) refl

-- the first row of the whole table that has the name of this row of a subject is this row
abbrev IsFirst : {D : Type 0} → (D → laws.Command) → Row D → Type 0
IsFirst subject row = find (λ (other : Row laws.Command). bytes_eq other.name row.name) commands ≡ Some (row_in subject row)

-- that holds of each row of a subject, since no two commands have the same name
pub record AreFirst {D : Type 0} (subject : D → laws.Command) (rows : List (Row D)) : Type 0 where
  pub each : AllByRecursion (IsFirst subject) rows

pub sheets_first : AreFirst laws.OnSheets sheet_rows
unfolding commands
sheets_first = record { each = search rules }

pub definitions_first : AreFirst laws.OnDefinitions definition_rows
unfolding commands
definitions_first = record { each = search rules }

pub notation_first : AreFirst laws.OnNotation notation_rows
unfolding commands
notation_first = record { each = search rules }

pub writing_first : AreFirst laws.OnWriting writing_rows
unfolding commands
writing_first = record { each = search rules }

pub reading_first : AreFirst laws.OnReading reading_rows
unfolding commands
reading_first = record { each = search rules }

pub extending_first : AreFirst laws.OnExtending extending_rows
unfolding commands
extending_first = record { each = search rules }

pub styles_first : AreFirst laws.OnStyles style_rows
unfolding commands
styles_first = record { each = search rules }

pub layout_first : AreFirst laws.OnLayout layout_rows
unfolding commands
layout_first = record { each = search rules }

pub tabs_first : AreFirst laws.OnTabs tab_rows
unfolding commands
tabs_first = record { each = search rules }

pub arrays_first : AreFirst laws.OnArrays array_rows
unfolding commands
arrays_first = record { each = search rules }

-- each row of a subject has a name that tells the subject
pub record AreTold {D : Type 0} (subject : Subject) (rows : List (Row D)) : Type 0 where
  pub each : AllByRecursion (λ (row : Row D). subject_of row.name ≡ subject) rows

sheets_told : AreTold subjects.Sheets sheet_rows
sheets_told = record { each = search rules }

definitions_told : AreTold subjects.Definitions definition_rows
definitions_told = record { each = search rules }

notation_told : AreTold subjects.Notation notation_rows
notation_told = record { each = search rules }

writing_told : AreTold subjects.Writing writing_rows
writing_told = record { each = search rules }

reading_told : AreTold subjects.Reading reading_rows
reading_told = record { each = search rules }

extending_told : AreTold subjects.Extending extending_rows
extending_told = record { each = search rules }

styles_told : AreTold subjects.Styles style_rows
styles_told = record { each = search rules }

layout_told : AreTold subjects.Layout layout_rows
layout_told = record { each = search rules }

tabs_told : AreTold subjects.Tabs tab_rows
tabs_told = record { each = search rules }

arrays_told : AreTold subjects.Arrays array_rows
arrays_told = record { each = search rules }

-- a subject that lacks the name
record Lacks {D : Type 0} (english : List (List ℕ)) (rows : List (Row D)) (name : List ℕ) (words : List (List ℕ)) : Type 0 where
  none : named english rows name words ≡ None

module _ (english : List (List ℕ)) (name : List ℕ) (words : List (List ℕ)) where
  by_row : {D : Type 0} (subject : D → laws.Command) (row : Row D) → IsFirst subject row → bytes_eq row.name name ≡ true
      → named english commands name words ≡ Some (option_map subject (option_map row.command (words_said english row.words words)))
  by_row subject row first is =
      let same = sym ((bytes_eq-Decides row.name name).0 is) in
      let at : find (λ (other : Row laws.Command). bytes_eq other.name name) commands ≡ Some (row_in subject row)
      = ap (λ n. find (λ (other : Row laws.Command). bytes_eq other.name n) commands) same ∙ first in
      ap (option_map (λ (other : Row laws.Command). option_map other.command (words_said english other.words words))) at
      ∙ ap Some (map_map row.command subject (words_said english row.words words))

  by_rows : {D : Type 0} (subject : D → laws.Command) (rows : List (Row D)) → AllByRecursion (IsFirst subject) rows → (said : Option D)
      → named english rows name words ≡ Some said → named english commands name words ≡ Some (option_map subject said)
  by_rows subject [] first said = λ is. cc
  by_rows subject (row ∷ rows) first said =
      elim (cases_Bool (bytes_eq row.name name)) [
        | inl e ↦ rw e (λ is. by_row subject row first.0 e ∙ ap (option_map (option_map subject)) is)
        | inr e ↦ rw e (by_rows subject rows first.1 said)
      ]

  beside : {D : Type 0} (subject : D → laws.Command) (rows : List (Row D)) (later : List (Row laws.Command)) → named english rows name words ≡ None
      → named english later name words ≡ None → named english (map (row_in subject) rows ++ later) name words ≡ None
  beside subject [] later = λ lacking none. none
  beside subject (row ∷ rows) later =
      elim (cases_Bool (bytes_eq row.name name)) [ inl e ↦ rw e (λ lacking none. cc) | inr e ↦ rw e (beside subject rows later) ]

  -- where each subject lacks the name, the whole table does
  none_named : Lacks english sheet_rows name words
      → Lacks english definition_rows name words
      → Lacks english notation_rows name words
      → Lacks english writing_rows name words
      → Lacks english reading_rows name words
      → Lacks english extending_rows name words
      → Lacks english style_rows name words
      → Lacks english layout_rows name words
      → Lacks english tab_rows name words
      → Lacks english array_rows name words
      → None ≡ joined (named english commands name words)
  unfolding commands
  none_named sheets definitions notation writing reading extending styles layout tabs arrays =
      sym (ap joined (
      beside laws.OnSheets sheet_rows from_definitions sheets.none
      (beside laws.OnDefinitions definition_rows from_notation definitions.none
      (beside laws.OnNotation notation_rows from_writing notation.none
      (beside laws.OnWriting writing_rows from_reading writing.none
      (beside laws.OnReading reading_rows from_extending reading.none
      (beside laws.OnExtending extending_rows from_styles extending.none
      (beside laws.OnStyles style_rows from_layout styles.none
      (beside laws.OnLayout layout_rows from_tabs layout.none
      (beside laws.OnTabs tab_rows from_arrays tabs.none
      (beside laws.OnArrays array_rows [] arrays.none refl)))))))))))

  told_of : {D : Type 0} (subject : Subject) (rows : List (Row D)) → AllByRecursion (λ (row : Row D). subject_of row.name ≡ subject) rows → (said : Option D)
      → named english rows name words ≡ Some said → subject_of name ≡ subject
  told_of subject [] all said = λ is. cc
  told_of subject (row ∷ rows) all said =
      elim (cases_Bool (bytes_eq row.name name)) [
        | inl e ↦ λ is. ap subject_of (sym ((bytes_eq-Decides row.name name).0 e)) ∙ all.0
        | inr e ↦ rw e (told_of subject rows all.1 said)
      ]

  -- a subject has the name only if the name tells it
  lacks_unless : {D : Type 0} {subject : Subject} {rows : List (Row D)} → AreTold subject rows → (subject_of name ≡ subject → named english rows name words ≡ None)
      → Lacks english rows name words
  lacks_unless {D} {subject} {rows} told lacking = record { none = by_said (named english rows name words) refl }
    where
      by_said : (o : Option (Option D)) → named english rows name words ≡ o → named english rows name words ≡ None
      by_said None is = is
      by_said (Some said) is = lacking (told_of subject rows told.each said is)

  -- the subject that is told lacks the name
  abbrev pub LacksIt : Subject → Type 0
  LacksIt subjects.Sheets = named english sheet_rows name words ≡ None
  LacksIt subjects.Definitions = named english definition_rows name words ≡ None
  LacksIt subjects.Notation = named english notation_rows name words ≡ None
  LacksIt subjects.Writing = named english writing_rows name words ≡ None
  LacksIt subjects.Reading = named english reading_rows name words ≡ None
  LacksIt subjects.Extending = named english extending_rows name words ≡ None
  LacksIt subjects.Styles = named english style_rows name words ≡ None
  LacksIt subjects.Layout = named english layout_rows name words ≡ None
  LacksIt subjects.Tabs = named english tab_rows name words ≡ None
  LacksIt subjects.Arrays = named english array_rows name words ≡ None

  -- then no subject has it
  none_has : (subject : Subject) → subject_of name ≡ subject → LacksIt subject → None ≡ joined (named english commands name words)
  none_has subject told lacking =
      none_named
      (lacks_unless sheets_told (λ is. subst LacksIt (sym told ∙ is) lacking))
      (lacks_unless definitions_told (λ is. subst LacksIt (sym told ∙ is) lacking))
      (lacks_unless notation_told (λ is. subst LacksIt (sym told ∙ is) lacking))
      (lacks_unless writing_told (λ is. subst LacksIt (sym told ∙ is) lacking))
      (lacks_unless reading_told (λ is. subst LacksIt (sym told ∙ is) lacking))
      (lacks_unless extending_told (λ is. subst LacksIt (sym told ∙ is) lacking))
      (lacks_unless styles_told (λ is. subst LacksIt (sym told ∙ is) lacking))
      (lacks_unless layout_told (λ is. subst LacksIt (sym told ∙ is) lacking))
      (lacks_unless tabs_told (λ is. subst LacksIt (sym told ∙ is) lacking))
      (lacks_unless arrays_told (λ is. subst LacksIt (sym told ∙ is) lacking))

  -- the command of the subject that is told is that of the whole table
  pub of_told : (told : Subject) {D : Type 0} {subject : D → laws.Command} {rows : List (Row D)} → AreFirst subject rows → subject_of name ≡ told
      → (named english rows name words ≡ None → LacksIt told) → {made : Option D} → made ≡ joined (named english rows name words)
      → option_map subject made ≡ joined (named english commands name words)
  of_told told {D} {subject} {rows} first is lacks made_is = ap (option_map subject) made_is ∙ by_said (named english rows name words) refl
    where
      by_said : (o : Option (Option D)) → named english rows name words ≡ o → option_map subject (joined o) ≡ joined (named english commands name words)
      by_said None e = none_has told is (lacks e)
      by_said (Some said) e = sym (ap joined (by_rows subject rows first.each said e))

-- where the subject that is told takes no values for words, whatever the English words are
pub of_plain : (english : List (List ℕ)) (name : List ℕ) (words : List (List ℕ)) (told : Subject) {D : Type 0} {subject : D → laws.Command} {rows : List (Row D)} → IsUtf8 name → AreFirst subject rows
    → subject_of name ≡ told → told ≢ subjects.Arrays → (named [] rows name words ≡ None → LacksIt [] name words told) → {made : Option D} → made ≡ joined (named [] rows name words)
    → option_map subject made ≡ joined (named english commands (chars name) words)
of_plain english name words told u first is plain lacks made =
    of_told [] name words told first is lacks made ∙ ap joined (known_named english name words u (plain_told name (λ arrays. plain (sym is ∙ arrays))))

pub of_arrays : (english : List (List ℕ)) (name : List ℕ) (words : List (List ℕ)) → IsUtf8 name → subject_of name ≡ subjects.Arrays → {made : Option Arrays} → made ≡ joined (named english array_rows name words)
    → option_map laws.OnArrays made ≡ joined (named english commands (chars name) words)
of_arrays english name words u is made = of_told english name words subjects.Arrays arrays_first is (λ none. none) made ∙ sym (ap joined (found_same_named english name words u))
