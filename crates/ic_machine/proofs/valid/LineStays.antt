-- A book stays valid over each line: the ids and the amounts that lines give are such as a word can say.
use Rattle.std.proofs.Common.{◌≡◌, ℕ, List, [], ◌∷◌, map, Bool, true, false, cond, Option, Some, None, Ok, Err, codes, refl, sym, ap, subst, ◌∙◌, arith}
use Rattle.std.proofs.lemmas.Bool.Decides.{nat_tests}
use Rattle.std.specs.List.{AllByRecursion}
use Rattle.std.specs.Prelude.{bytes_eq, nat_le, option_and_then, option_map}
use Rattle.ic_laws.proofs.kept.Kept.{found_has}
use Rattle.ic_laws.specs.Amount.{is_amount}
use Rattle.ic_laws.specs.Command.{at_most, index_said, number_said, scope_said}
use Rattle.ic_machine.specs.Book.{Book, Stepped}
use Rattle.ic_machine.specs.Command.{Command, OnArrays, OnDefinitions, OnExtending, OnLayout, OnNotation, OnReading, OnSheets, OnStyles, OnTabs, OnWriting, command_in, commands}
use Rattle.ic_machine.specs.Kept.{StaysValid, StaysValidIf, gives_amount, gives_id, is_given_id}
use Rattle.ic_machine.specs.Row.{Row, row_in}
use Rattle.ic_machine.specs.Step.{command_step, english_errors, outcome_of, step}
use Rattle.ic_machine.specs.Translation.{left_after}
use Rattle.ic_machine.specs.Valid.{IsValidBook}
use Rattle.ic_machine.specs.Word.{AllSaid, all_said, said}
use Rattle.ic_machine.specs.Word as forms
use Rattle.ic_machine.specs.subjects.Arrays as arrays
use Rattle.ic_machine.specs.subjects.Definitions as definitions
use Rattle.ic_machine.specs.subjects.Extending as extending
use Rattle.ic_machine.specs.subjects.Layout as layout
use Rattle.ic_machine.specs.subjects.Notation as notation
use Rattle.ic_machine.specs.subjects.Reading as reading
use Rattle.ic_machine.specs.subjects.Sheets as sheets
use Rattle.ic_machine.specs.subjects.Styles as styles
use Rattle.ic_machine.specs.subjects.Tabs as tabs
use Rattle.ic_machine.specs.subjects.Writing as writing
use Rattle.ic_machine.proofs.valid.ArraysStay.{arrays_stay}
use Rattle.ic_machine.proofs.again.LineRead.{all_rows, both_said, is_read}
use Rattle.ic_machine.proofs.valid.NamesStay.{definitions_stay, sheets_stay}
use Rattle.ic_machine.proofs.valid.StylesStay.{styles_stay}
use Rattle.ic_machine.proofs.valid.SubjectsStay.{extending_stays, layout_stays, notation_stays, reading_stays, tabs_are}
use Rattle.ic_machine.proofs.valid.TypedAmounts.{said_amount}
use Rattle.ic_machine.proofs.valid.WritingSteps.{writing_stays}

-- the id or the amount that a command gives is such
abbrev given : Command → Bool
given (OnSheets command) = gives_id command
given (OnWriting command) = gives_amount command
given command = true

-- so is each that words say
index_small : (text : List ℕ) (id : ℕ) → index_said text ≡ Some id → is_given_id (Some id) ≡ true
index_small text id e = go (number_said text) e
  where
    go : (o : Option ℕ) → option_and_then (at_most 4294967295) o ≡ Some id → is_given_id (Some id) ≡ true
    go None h = absurd (cc)
    go (Some k) h = at (nat_le k 4294967295) refl h
      where
        at : (b : Bool) → nat_le k 4294967295 ≡ b → cond b (Some k) None ≡ Some id → is_given_id (Some id) ≡ true
        at true low f = let same : k ≡ id = cc in subst (λ (n : ℕ). is_given_id (Some n) ≡ true) same (grind (arith, nat_tests))
        at false low f = absurd (cc)

scope_small : (text : List ℕ) (id : Option ℕ) → scope_said text ≡ Some id → is_given_id id ≡ true
scope_small text id e = go (bytes_eq text (codes "-")) e
  where
    some : (o : Option ℕ) → index_said text ≡ o → option_map (λ (n : ℕ). let some : Option ℕ = Some n in some) o ≡ Some id → is_given_id id ≡ true
    some None f h = absurd (cc)
    some (Some n) f h = let same : ◌≡◌ {A = Option ℕ} (Some n) id = cc in subst (λ (o : Option ℕ). is_given_id o ≡ true) same (index_small text n f)

    go : (b : Bool) → cond b (Some None) (option_map (λ (n : ℕ). let some : Option ℕ = Some n in some) (index_said text)) ≡ Some id → is_given_id id ≡ true
    go true h = let same : ◌≡◌ {A = Option ℕ} None id = cc in subst (λ (o : Option ℕ). is_given_id o ≡ true) same refl
    go false h = some (index_said text) refl h

module _ (english : List (List ℕ)) where
  abbrev GivesIds : Row Command → Type 0
  GivesIds row = (texts : List (List ℕ)) (w : AllSaid row.words) → all_said english row.words texts ≡ Some w → given (row.command w) ≡ true

  others_give : {C : Type 0} (subject : C → Command) → ((command : C) → given (subject command) ≡ true) → (rows : List (Row C)) → AllByRecursion GivesIds (map (row_in subject) rows)
  others_give subject h [] = tt
  others_give subject h (row ∷ rows) = (λ texts w e. h (row.command w), others_give subject h rows)

  -- the first of words, and the others
  first_said : (form : forms.WordForm) (others : forms.Words) (texts : List (List ℕ)) (w : AllSaid (forms.Then form others)) → all_said english (forms.Then form others) texts ≡ Some w
      → (first : List ℕ) × (rest : List (List ℕ)) × (said english form first ≡ Some w.0) × (all_said english others rest ≡ Some w.1)
  first_said form others [] w e = absurd (cc)
  first_said form others (first ∷ rest) w e = let both = both_said (said english form first) (all_said english others rest) w e in (first, rest, both.0, both.1)

  insert_gives : (texts : List (List ℕ)) (w : AllSaid (forms.words_of (forms.OfText ∷ forms.OfIndex ∷ forms.OfScope ∷ []))) → all_said english (forms.words_of (forms.OfText ∷ forms.OfIndex ∷ forms.OfScope ∷ [])) texts ≡ Some w
      → is_given_id w.1.1.0 ≡ true
  insert_gives texts w e =
      let name = first_said forms.OfText (forms.words_of (forms.OfIndex ∷ forms.OfScope ∷ [])) texts w e in
      let index = first_said forms.OfIndex (forms.words_of (forms.OfScope ∷ [])) name.1 w.1 name.3 in
      let scope = first_said forms.OfScope forms.Done index.1 w.1.1 index.3 in
      scope_small scope.0 w.1.1.0 scope.2

  sheets_give : AllByRecursion GivesIds (map (row_in OnSheets) sheets.sheet_rows)
  sheets_give = (
    λ texts w e. refl,
    (
      insert_gives,
      (
        λ texts w e. refl,
        (
          λ texts w e. refl,
          (
            λ texts w e. refl,
            (λ texts w e. refl, (λ texts w e. refl, (λ texts w e. refl, (λ texts w e. refl, (λ texts w e. refl, (λ texts w e. refl, (λ texts w e. refl, tt))))))),
          ),
        ),
      ),
    ),
  )

  number_gives : (texts : List (List ℕ)) (w : AllSaid (forms.words_of (forms.OfIndex ∷ forms.OfPosition ∷ forms.OfPosition ∷ forms.OfAmount ∷ [])))
      → all_said english (forms.words_of (forms.OfIndex ∷ forms.OfPosition ∷ forms.OfPosition ∷ forms.OfAmount ∷ [])) texts ≡ Some w → is_amount w.1.1.1.0 ≡ true
  number_gives texts w e =
      let sheet = first_said forms.OfIndex (forms.words_of (forms.OfPosition ∷ forms.OfPosition ∷ forms.OfAmount ∷ [])) texts w e in
      let row = first_said forms.OfPosition (forms.words_of (forms.OfPosition ∷ forms.OfAmount ∷ [])) sheet.1 w.1 sheet.3 in
      let column = first_said forms.OfPosition (forms.words_of (forms.OfAmount ∷ [])) row.1 w.1.1 row.3 in
      let amount = first_said forms.OfAmount forms.Done column.1 w.1.1.1 column.3 in
      said_amount amount.0 w.1.1.1.0 amount.2

  writing_give : AllByRecursion GivesIds (map (row_in OnWriting) writing.writing_rows)
  writing_give = (λ texts w e. refl, (λ texts w e. refl, (λ texts w e. refl, (λ texts w e. refl, (number_gives, tt)))))

  all_give : AllByRecursion GivesIds commands
  all_give =
      all_rows GivesIds sheets_give (others_give OnDefinitions (λ command. refl) definitions.definition_rows) (others_give OnNotation (λ command. refl) notation.notation_rows)
      writing_give (others_give OnReading (λ command. refl) reading.reading_rows) (others_give OnExtending (λ command. refl) extending.extending_rows)
      (others_give OnStyles (λ command. refl) styles.style_rows) (others_give OnLayout (λ command. refl) layout.layout_rows) (others_give OnTabs (λ command. refl) tabs.tab_rows)
      (others_give OnArrays (λ command. refl) arrays.array_rows)

  -- what the command of a line gives is such
  line_gives : (line : List ℕ) (command : Command) → command_in english commands line ≡ Some command → given command ≡ true
  line_gives line command e =
      let read = is_read english line command e in
      ap given (sym read.is) ∙ found_has GivesIds (λ (row : Row Command). bytes_eq row.name read.name) commands all_give read.row read.found read.texts read.w read.says

-- so a valid book stays valid over it
module _ (b : Book) (valid : IsValidBook b) where
  asked : (t : Bool) (stepped : Stepped Book) → t ≡ true → StaysValidIf t stepped → StaysValid stepped
  asked true stepped e h = h
  asked false stepped e h = absurd (cc)

  command_stays : (command : Command) → given command ≡ true → StaysValid (step b command)
  command_stays (OnSheets command) h = asked (gives_id command) (step b (OnSheets command)) h (sheets_stay b valid command)
  command_stays (OnDefinitions command) h = definitions_stay b valid command
  command_stays (OnNotation command) h = notation_stays b command valid
  command_stays (OnWriting command) h = asked (gives_amount command) (step b (OnWriting command)) h (writing_stays b command valid)
  command_stays (OnReading command) h = reading_stays b command valid
  command_stays (OnExtending command) h = extending_stays b command valid
  command_stays (OnStyles command) h = styles_stay b command valid
  command_stays (OnLayout command) h = layout_stays b command valid
  command_stays (OnTabs command) h = tabs_are b command valid
  command_stays (OnArrays command) h = arrays_stay b valid command

  outcome_stays : (stepped : Stepped Book) → StaysValid stepped → IsValidBook (outcome_of b stepped).0
  outcome_stays (Ok done) h = h
  outcome_stays (Err refusal) h = valid

  pub line_stays : (line : List ℕ) → IsValidBook (left_after b line)
  line_stays line = by_command (command_in (english_errors b) commands line) refl
    where
      by_command : (o : Option Command) → command_in (english_errors b) commands line ≡ o → IsValidBook (command_step b o).0
      by_command None e = valid
      by_command (Some command) e = outcome_stays (step b command) (command_stays command (line_gives (english_errors b) line command e))
