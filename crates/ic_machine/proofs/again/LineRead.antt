-- The command that a line is which is made of the texts of another, or of those with another text at their end.
use Rattle.std.proofs.Common.{◌≡◌, ℕ, List, [], ◌∷◌, ◌++◌, map, Bool, true, ◌⊎◌, Option, Some, None, codes, refl, sym, ap, ap₂, subst, ◌∙◌, inl, inr}
use Rattle.std.proofs.lemmas.Bool.{and_parts}
use Rattle.std.proofs.lemmas.Slice.Eq.{bytes_eq-Decides}
use Rattle.std.specs.List.{AllByRecursion, find, list_all}
use Rattle.std.specs.Prelude.{bytes_eq, option_and_then, option_map, unwrap_or}
use Rattle.ic_laws.proofs.binding.SceneLemmas.{found_passes}
use Rattle.ic_laws.proofs.kept.Kept.{found_has}
use Rattle.ic_laws.specs.Lines.{escaped, unescaped, word_texts, words_of}
use Rattle.ic_machine.specs.Command.{Command, OnArrays, OnDefinitions, OnExtending, OnLayout, OnNotation, OnReading, OnSheets, OnStyles, OnTabs, OnWriting, command_in, commands}
use Rattle.ic_machine.specs.Row.{Row, joined, row_in, spelled}
use Rattle.ic_machine.specs.Word.{AllSaid, Done, OfText, Said, Then, WordForm, Words, all_said, said, words_said}
use Rattle.ic_machine.specs.Word as forms
use Rattle.ic_machine.specs.subjects.Arrays as arrays
use Rattle.ic_machine.specs.subjects.Definitions as definitions
use Rattle.ic_machine.specs.subjects.Extending as extending
use Rattle.ic_machine.specs.subjects.Layout as layout
use Rattle.ic_machine.specs.subjects.Notation as notation
use Rattle.ic_machine.specs.subjects.Reading as reading
use Rattle.ic_machine.specs.subjects.Sheets as sheets
use Rattle.ic_machine.specs.subjects.Styles as styles
use Rattle.ic_machine.specs.subjects.Tabs as tabs
use Rattle.ic_machine.specs.subjects.Writing as writing
use Rattle.ic_machine.specs.Translation.{line_of, texts_of, with_last}
use Rattle.ic_machine.proofs.bound.CopyKeys.{all_appended}
use Rattle.ic_machine.proofs.again.LinesAgain.{text_again, texts_again, words_again}
use Rattle.ic_laws.proofs.tokens.Splits.{mapped as made_of}

-- Rows whose last word is a text, and the same words with another text there. ----

pub data EndsText : Words → Type 0 where
  Last : EndsText (Then OfText Done)
  More : (form : WordForm) (others : Words) → EndsText others → EndsText (Then form others)

abbrev pub put_text : {words : Words} → EndsText words → List ℕ → AllSaid words → AllSaid words
put_text Last t w = (t, tt)
put_text (More form others h) t w = (w.0, put_text h t w.1)

pub both_said : {A B : Type 0} (o : Option A) (p : Option B) (w : A × B) → option_and_then (λ (a : A). option_map (λ (b : B). (a, b)) p) o ≡ Some w → (o ≡ Some w.0) × (p ≡ Some w.1)
both_said None p w e = absurd (cc)
both_said (Some a) None w e = absurd (cc)
both_said {A} {B} (Some a) (Some b) w e =
    let pair : ◌≡◌ {A = A × B} (a, b) w = cc in
    (ap (λ (q : A × B). let o : Option A = Some q.0 in o) pair, ap (λ (q : A × B). let o : Option B = Some q.1 in o) pair)

none_said : {A B : Type 0} (o : Option A) (p : Option B) → p ≡ None → (w : A × B) → option_and_then (λ (a : A). option_map (λ (b : B). (a, b)) p) o ≡ Some w → ⊥
none_said o p none w e = let said = both_said o p w e in let no : None ≡ Some w.1 = sym none ∙ said.1 in cc

module _ (english : List (List ℕ)) where
  none_empty : {words : Words} → EndsText words → all_said english words [] ≡ None
  none_empty Last = refl
  none_empty (More form others h) = refl

  last_said : {words : Words} (h : EndsText words) (texts : List (List ℕ)) (w : AllSaid words) → all_said english words texts ≡ Some w → (t : List ℕ) → all_said english words (with_last t texts) ≡ Some (put_text h t w)
  last_said Last [] w e t = absurd (cc)
  last_said Last (a ∷ []) w e t = refl
  last_said Last (a ∷ b ∷ texts) w e t = absurd (cc)
  last_said (More form others h) [] w e t = absurd (cc)
  last_said (More form others h) (a ∷ []) w e t = absurd (none_said (said english form a) (all_said english others []) (none_empty h) w e)
  last_said (More form others h) (a ∷ b ∷ texts) w e t =
      let both = both_said (said english form a) (all_said english others (b ∷ texts)) w e in
      ap₂ (λ (o : Option (Said form)) (p : Option (AllSaid others)). option_and_then (λ first. option_map (λ rest. (first, rest)) p) o) both.0 (last_said h (b ∷ texts) w.1 both.1 t)

  -- there is a text at the end
  last_there : {words : Words} (h : EndsText words) (texts : List (List ℕ)) (w : AllSaid words) → all_said english words texts ≡ Some w → (first : List ℕ) × (others : List (List ℕ)) × (texts ≡ first ∷ others)
  last_there h [] w e = let no : None ≡ Some w = sym (none_empty h) ∙ e in absurd (cc)
  last_there h (a ∷ texts) w e = (a, texts, refl)

-- Commands with another text at their end, where they have one that is written anew. ----

abbrev pub writing_with : List ℕ → writing.Writing → Option Command
writing_with t (writing.SetUserInput sheet row column text) = Some (OnWriting (writing.SetUserInput sheet row column t))
writing_with t (writing.UpdateCellWithFormula sheet row column text) = Some (OnWriting (writing.UpdateCellWithFormula sheet row column t))
writing_with t command = None

abbrev pub array_with : List ℕ → arrays.Arrays → Option Command
array_with t (arrays.SetUserArrayFormula sheet block text) = Some (OnArrays (arrays.SetUserArrayFormula sheet block t))
array_with t command = None

abbrev pub definition_with : List ℕ → definitions.Definitions → Option Command
definition_with t (definitions.NewDefinedName name scope body) = Some (OnDefinitions (definitions.NewDefinedName name scope t))
definition_with t (definitions.UpdateDefinedName update) = Some (OnDefinitions (definitions.UpdateDefinedName (record update { body = t })))
definition_with t command = None

abbrev pub with_text : List ℕ → Command → Option Command
with_text t (OnWriting command) = writing_with t command
with_text t (OnArrays command) = array_with t command
with_text t (OnDefinitions command) = definition_with t command
with_text t command = None

-- a row makes no such command, or its last word is the text that is written anew
abbrev pub TakesText : Row Command → Type 0
TakesText row =
    ((w : AllSaid row.words) (t : List ℕ) → with_text t (row.command w) ≡ None)
    ⊎ ((h : EndsText row.words) × ((w : AllSaid row.words) (t : List ℕ) → with_text t (row.command w) ≡ Some (row.command (put_text h t w))))

none_takes : {C : Type 0} (subject : C → Command) → ((command : C) (t : List ℕ) → with_text t (subject command) ≡ None) → (rows : List (Row C)) → AllByRecursion TakesText (map (row_in subject) rows)
none_takes subject none [] = tt
none_takes subject none (row ∷ rows) = (inl (λ w t. none (row.command w) t), none_takes subject none rows)

definitions_take : AllByRecursion TakesText (map (row_in OnDefinitions) definitions.definition_rows)
definitions_take = (
  inr (More OfText _ (More forms.OfScope _ Last), λ w t. refl),
  (
    inl (λ w t. refl),
    (
      inr (More OfText _ (More forms.OfScope _ (More OfText _ (More forms.OfScope _ Last))), λ w t. refl),
      (inl (λ w t. refl), (inl (λ w t. refl), (inl (λ w t. refl), tt))),
    ),
  ),
)

writings_take : AllByRecursion TakesText (map (row_in OnWriting) writing.writing_rows)
writings_take = (
  inr (More forms.OfIndex _ (More forms.OfPosition _ (More forms.OfPosition _ Last)), λ w t. refl),
  (
    inl (λ w t. refl),
    (inr (More forms.OfIndex _ (More forms.OfPosition _ (More forms.OfPosition _ Last)), λ w t. refl), (inl (λ w t. refl), (inl (λ w t. refl), tt))),
  ),
)

arrays_take : AllByRecursion TakesText (map (row_in OnArrays) arrays.array_rows)
arrays_take = (
  inr (More forms.OfIndex _ (More forms.OfPosition _ (More forms.OfPosition _ (More forms.OfPosition _ (More forms.OfPosition _ Last)))), λ w t. refl),
  (inl (λ w t. refl), (inl (λ w t. refl), (inl (λ w t. refl), (inl (λ w t. refl), tt)))),
)

-- the rows from a subject on
abbrev pub rows_from_arrays : List (Row Command)
rows_from_arrays = map (row_in OnArrays) arrays.array_rows

abbrev rows_from_tabs : List (Row Command)
rows_from_tabs = map (row_in OnTabs) tabs.tab_rows ++ rows_from_arrays

abbrev rows_from_layout : List (Row Command)
rows_from_layout = map (row_in OnLayout) layout.layout_rows ++ rows_from_tabs

abbrev rows_from_styles : List (Row Command)
rows_from_styles = map (row_in OnStyles) styles.style_rows ++ rows_from_layout

abbrev rows_from_extending : List (Row Command)
rows_from_extending = map (row_in OnExtending) extending.extending_rows ++ rows_from_styles

abbrev rows_from_reading : List (Row Command)
rows_from_reading = map (row_in OnReading) reading.reading_rows ++ rows_from_extending

abbrev rows_from_writing : List (Row Command)
rows_from_writing = map (row_in OnWriting) writing.writing_rows ++ rows_from_reading

abbrev rows_from_notation : List (Row Command)
rows_from_notation = map (row_in OnNotation) notation.notation_rows ++ rows_from_writing

abbrev rows_from_definitions : List (Row Command)
rows_from_definitions = map (row_in OnDefinitions) definitions.definition_rows ++ rows_from_notation

-- what holds of the rows of each subject holds of all
pub all_rows : (P : Row Command → Type 0) → AllByRecursion P (map (row_in OnSheets) sheets.sheet_rows) → AllByRecursion P (map (row_in OnDefinitions) definitions.definition_rows)
    → AllByRecursion P (map (row_in OnNotation) notation.notation_rows) → AllByRecursion P (map (row_in OnWriting) writing.writing_rows) → AllByRecursion P (map (row_in OnReading) reading.reading_rows)
    → AllByRecursion P (map (row_in OnExtending) extending.extending_rows) → AllByRecursion P (map (row_in OnStyles) styles.style_rows) → AllByRecursion P (map (row_in OnLayout) layout.layout_rows)
    → AllByRecursion P (map (row_in OnTabs) tabs.tab_rows) → AllByRecursion P rows_from_arrays → AllByRecursion P commands
unfolding commands
all_rows P one two three four five six seven eight nine ten =
    all_appended P (map (row_in OnSheets) sheets.sheet_rows) rows_from_definitions one
    (all_appended P (map (row_in OnDefinitions) definitions.definition_rows) rows_from_notation two
    (all_appended P (map (row_in OnNotation) notation.notation_rows) rows_from_writing three
    (all_appended P (map (row_in OnWriting) writing.writing_rows) rows_from_reading four
    (all_appended P (map (row_in OnReading) reading.reading_rows) rows_from_extending five
    (all_appended P (map (row_in OnExtending) extending.extending_rows) rows_from_styles six
    (all_appended P (map (row_in OnStyles) styles.style_rows) rows_from_layout seven
    (all_appended P (map (row_in OnLayout) layout.layout_rows) rows_from_tabs eight
    (all_appended P (map (row_in OnTabs) tabs.tab_rows) rows_from_arrays nine ten))))))))

all_take : AllByRecursion TakesText commands
all_take =
    all_rows TakesText (none_takes OnSheets (λ command t. refl) sheets.sheet_rows) definitions_take (none_takes OnNotation (λ command t. refl) notation.notation_rows) writings_take
    (none_takes OnReading (λ command t. refl) reading.reading_rows) (none_takes OnExtending (λ command t. refl) extending.extending_rows) (none_takes OnStyles (λ command t. refl) styles.style_rows)
    (none_takes OnLayout (λ command t. refl) layout.layout_rows) (none_takes OnTabs (λ command t. refl) tabs.tab_rows) arrays_take

-- the name of each row is written as it is
abbrev pub is_plain : Row Command → Bool
is_plain row = bytes_eq (escaped row.name) row.name

all_plain : list_all is_plain commands ≡ true
unfolding commands
all_plain = refl

holds_of_test : {A : Type 0} (p : A → Bool) (xs : List A) → list_all p xs ≡ true → AllByRecursion (λ (x : A). p x ≡ true) xs
holds_of_test p [] h = tt
holds_of_test p (x ∷ xs) h = let parts = and_parts (p x) (list_all p xs) h in (parts.0, holds_of_test p xs parts.1)

plain_rows : AllByRecursion (λ (row : Row Command). is_plain row ≡ true) commands
plain_rows = holds_of_test is_plain commands all_plain

-- A line that is a command: its words, its row, and the texts after its name. ----

abbrev pub finds : List ℕ → Option (Row Command)
finds name = find (λ row. bytes_eq row.name name) commands

pub record IsRead (english : List (List ℕ)) (line : List ℕ) (command : Command) : Type 0 where
  pub name : List ℕ
  pub words : List (List ℕ)
  pub cut : words_of line ≡ name ∷ words
  pub row : Row Command
  pub found : finds name ≡ Some row
  pub texts : List (List ℕ)
  pub spells : word_texts words ≡ Some texts
  pub w : AllSaid row.words
  pub says : all_said english row.words texts ≡ Some w
  pub is : row.command w ≡ command

module _ (english : List (List ℕ)) (line : List ℕ) (command : Command) where
  pub is_read : command_in english commands line ≡ Some command → IsRead english line command
  is_read e = by_words (words_of line) refl e
    where
      by_texts : (name : List ℕ) (words : List (List ℕ)) → words_of line ≡ name ∷ words → (row : Row Command) → finds name ≡ Some row → (o : Option (List (List ℕ))) → word_texts words ≡ o
          → option_map row.command (option_and_then (all_said english row.words) o) ≡ Some command → IsRead english line command
      by_texts name words cut row found None spells h = absurd (cc)
      by_texts name words cut row found (Some texts) spells h =
          let made = made_of row.command (all_said english row.words texts) command h in
          record { name = name; words = words; cut = cut; row = row; found = found; texts = texts; spells = spells; w = made.0; says = made.1; is = made.2 }

      by_row : (name : List ℕ) (words : List (List ℕ)) → words_of line ≡ name ∷ words → (o : Option (Row Command)) → finds name ≡ o
          → joined (option_map (λ (row : Row Command). option_map row.command (words_said english row.words words)) o) ≡ Some command → IsRead english line command
      by_row name words cut None found h = absurd (cc)
      by_row name words cut (Some row) found h = by_texts name words cut row found (word_texts words) refl h

      by_words : (all : List (List ℕ)) → words_of line ≡ all → spelled english commands all ≡ Some command → IsRead english line command
      by_words [] cut h = absurd (cc)
      by_words (name ∷ words) cut h = by_row name words cut (finds name) refl h

  module _ (read : IsRead english line command) where
    -- its name is written as it is
    name_plain : escaped read.name ≡ read.name
    name_plain =
        let same : read.row.name ≡ read.name = (bytes_eq-Decides read.row.name read.name).0 (found_passes (λ (row : Row Command). bytes_eq row.name read.name) commands read.row read.found) in
        let plain : escaped read.row.name ≡ read.row.name =
        (bytes_eq-Decides (escaped read.row.name) read.row.name).0 (found_has (λ (row : Row Command). is_plain row ≡ true) (λ (row : Row Command). bytes_eq row.name read.name) commands plain_rows read.row read.found) in
        subst (λ (text : List ℕ). escaped text ≡ text) same plain

    texts_are : texts_of line ≡ read.name ∷ read.texts
    texts_are =
        let name_is : unescaped read.name ≡ Some read.name = ap unescaped (sym name_plain) ∙ text_again read.name in
        ap (λ (words : List (List ℕ)). unwrap_or (word_texts words) []) read.cut
        ∙ ap₂ (λ (o : Option (List ℕ)) (p : Option (List (List ℕ))). unwrap_or (option_and_then (λ t. option_map (λ ts. t ∷ ts) p) o) []) name_is read.spells

    -- what a line of the same name is
    line_is : (texts : List (List ℕ)) → command_in english commands (line_of (read.name ∷ texts)) ≡ option_map read.row.command (all_said english read.row.words texts)
    line_is texts =
        ap (spelled english commands) (words_again read.name texts)
        ∙ ap (λ (name : List ℕ). spelled english commands (name ∷ map escaped texts)) name_plain
        ∙ ap (λ (o : Option (Row Command)). joined (option_map (λ (row : Row Command). option_map row.command (words_said english row.words (map escaped texts))) o)) read.found
        ∙ ap (λ (o : Option (List (List ℕ))). option_map read.row.command (option_and_then (all_said english read.row.words) o)) (texts_again texts)

    -- the same texts are the same command
    pub same_line : command_in english commands (line_of (texts_of line)) ≡ Some command
    same_line = ap (λ (texts : List (List ℕ)). command_in english commands (line_of texts)) texts_are ∙ line_is read.texts ∙ ap (option_map read.row.command) read.says ∙ ap (λ (c : Command). let o : Option Command = Some c in o) read.is

    -- and with another text at their end the command with that
    pub last_line : (t : List ℕ) (other : Command) → with_text t command ≡ Some other → command_in english commands (line_of (with_last t (texts_of line))) ≡ Some other
    last_line t other e = elim (found_has TakesText (λ (row : Row Command). bytes_eq row.name read.name) commands all_take read.row read.found) [
      | inl none ↦ let no : None ≡ Some other = sym (none read.w t) ∙ ap (with_text t) read.is ∙ e in absurd (cc)
      | inr takes ↦
          let some : Some (read.row.command (put_text takes.0 t read.w)) ≡ Some other = sym (takes.1 read.w t) ∙ ap (with_text t) read.is ∙ e in
          let there = last_there english takes.0 read.texts read.w read.says in
          let put : with_last t (read.name ∷ read.texts) ≡ read.name ∷ with_last t read.texts =
          ap (λ (texts : List (List ℕ)). with_last t (read.name ∷ texts)) there.2 ∙ ap (λ (texts : List (List ℕ)). read.name ∷ with_last t texts) (sym there.2) in
          ap (λ (texts : List (List ℕ)). command_in english commands (line_of (with_last t texts))) texts_are ∙ ap (λ (texts : List (List ℕ)). command_in english commands (line_of texts)) put
          ∙ line_is (with_last t read.texts) ∙ ap (option_map read.row.command) (last_said english takes.0 read.texts read.w read.says t) ∙ some
    ]

-- a new sheet that is added by a name
pub sheet_line : (english : List (List ℕ)) (name : List ℕ) → command_in english commands (line_of (codes "add_sheet" ∷ name ∷ [])) ≡ Some (OnSheets (sheets.AddSheet name))
unfolding commands
sheet_line english name =
    ap (spelled english commands) (words_again (codes "add_sheet") (name ∷ []))
    ∙ ap (λ (o : Option (List (List ℕ))). option_map (λ (w : AllSaid (forms.words_of (OfText ∷ []))). OnSheets (sheets.AddSheet w.0)) (option_and_then (all_said english (forms.words_of (OfText ∷ []))) o)) (texts_again (name ∷ []))
