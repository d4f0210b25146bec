-- Which lines choose a language: those with the name of that command alone, if they are commands.
use Rattle.std.proofs.Common.{◌≡◌, ℕ, List, [], ◌∷◌, ◌++◌, Bool, true, false, cond, map, Option, Some, None, bytes_eq, codes, option_map, refl, sym, ap, subst, ◌∙◌}
use Rattle.std.specs.List.{AllByRecursion, find}
use Rattle.std.specs.Prelude.{IfSome, IsSome}
use Rattle.std.specs.Str.{chars}
use Rattle.std.proofs.lemmas.Slice.Eq.{bytes_eq-Decides}
use Rattle.ic_laws.specs.Lines as lines
use Rattle.ic_machine.specs.Command.{Command, OnArrays, OnDefinitions, OnExtending, OnLayout, OnNotation, OnReading, OnSheets, OnStyles, OnTabs, OnWriting, command_in, commands}
use Rattle.ic_machine.specs.Row.{Row, joined, named, row_in, spelled}
use Rattle.ic_machine.specs.Word.{AllSaid, OfText, words_of, words_said}
use Rattle.ic_machine.specs.subjects.Arrays.{Arrays, array_rows}
use Rattle.ic_machine.specs.subjects.Definitions.{definition_rows}
use Rattle.ic_machine.specs.subjects.Extending.{extending_rows}
use Rattle.ic_machine.specs.subjects.Layout.{layout_rows}
use Rattle.ic_machine.specs.subjects.Notation.{SetLanguage, notation_rows}
use Rattle.ic_machine.specs.subjects.Reading.{reading_rows}
use Rattle.ic_machine.specs.subjects.Sheets.{sheet_rows}
use Rattle.ic_machine.specs.subjects.Styles.{style_rows}
use Rattle.ic_machine.specs.subjects.Tabs.{tab_rows}
use Rattle.ic_machine.specs.subjects.Writing.{writing_rows}
use Rattle.ic_words.proofs.SubjectLemmas.{from_arrays, from_definitions, from_extending, from_layout, from_notation, from_reading, from_styles, from_tabs, from_writing}
use Rattle.ic_share.proofs.LineLemmas.{words_cut, words_uncut}
use Rattle.ic_share.specs.Shared.{language_chosen}
use Rattle.ic_share.specs.Users.{parts_of}

abbrev set_language : List ℕ
set_language = codes "set_language"

name_chars : chars set_language ≡ set_language
unfolding chars
name_chars = refl

-- no other row makes a command that chooses a language
abbrev IsNoChoice : Row Command → Type 0
IsNoChoice row = bytes_eq row.name set_language ≡ false → (said : AllSaid row.words) → language_chosen (Some (row.command said)) ≡ None

behind : {C : Type 0} (subject : C → Command) → ((x : C) → language_chosen (Some (subject x)) ≡ None) → (rows : List (Row C)) (more : List (Row Command)) → AllByRecursion IsNoChoice more → AllByRecursion IsNoChoice (map (row_in subject) rows ++ more)
behind subject none [] more all = all
behind subject none (row ∷ rows) more all = (λ e said. none (row.command said), behind subject none rows more all)

behind_notation : (more : List (Row Command)) → AllByRecursion IsNoChoice more → AllByRecursion IsNoChoice (map (row_in OnNotation) notation_rows ++ more)
behind_notation more all = (λ e said. refl, (λ e said. absurd (let no : true ≡ false = e in cc), (λ e said. refl, (λ e said. refl, (λ e said. refl, (λ e said. refl, (λ e said. refl, all)))))))

all_rows : AllByRecursion IsNoChoice commands
unfolding commands
all_rows =
    behind OnSheets (λ x. refl) sheet_rows from_definitions
    (behind OnDefinitions (λ x. refl) definition_rows from_notation
    (behind_notation from_writing
    (behind OnWriting (λ x. refl) writing_rows from_reading
    (behind OnReading (λ x. refl) reading_rows from_extending
    (behind OnExtending (λ x. refl) extending_rows from_styles
    (behind OnStyles (λ x. refl) style_rows from_layout
    (behind OnLayout (λ x. refl) layout_rows from_tabs
    (behind OnTabs (λ x. refl) tab_rows from_arrays
    (arrays_alone array_rows)))))))))
  where
    arrays_alone : (rows : List (Row Arrays)) → AllByRecursion IsNoChoice (map (row_in OnArrays) rows)
    arrays_alone [] = tt
    arrays_alone (row ∷ rows) = (λ e said. refl, arrays_alone rows)

module _ (english : List (List ℕ)) where
  by_words : (row : Row Command) → ((said : AllSaid row.words) → language_chosen (Some (row.command said)) ≡ None) → (o : Option (AllSaid row.words)) → language_chosen (option_map row.command o) ≡ None
  by_words row none None = refl
  by_words row none (Some said) = none said

  unchosen : (rows : List (Row Command)) → AllByRecursion IsNoChoice rows → (name : List ℕ) (words : List (List ℕ)) → bytes_eq name set_language ≡ false → language_chosen (joined (named english rows name words)) ≡ None
  unchosen [] all name words e = refl
  unchosen (row ∷ rows) all name words e = by_name (bytes_eq row.name name) refl (unchosen rows all.1 name words e)
    where
      by_name : (is : Bool) → bytes_eq row.name name ≡ is → language_chosen (joined (named english rows name words)) ≡ None
          → language_chosen (joined (option_map (λ (r : Row Command). option_map r.command (words_said english r.words words)) (cond is (Some row) (find (λ (r : Row Command). bytes_eq r.name name) rows)))) ≡ None
      by_name true is later = by_words row (all.0 (ap (λ n. bytes_eq n set_language) ((bytes_eq-Decides row.name name).0 is) ∙ e)) (words_said english row.words words)
      by_name false is later = later

  -- the row of that name makes one
  chosen : (words : List (List ℕ)) → spelled english commands (set_language ∷ words) ≡ option_map (λ w. OnNotation (SetLanguage w.0)) (words_said english (words_of (OfText ∷ [])) words)
  unfolding commands
  chosen words = refl

  is_chosen : (o : Option (AllSaid (words_of (OfText ∷ [])))) → IfSome (option_map (λ w. OnNotation (SetLanguage w.0)) o) (λ c. IsSome (language_chosen (Some c)))
  is_chosen None = tt
  is_chosen (Some said) = refl

  -- Of a line. ----

  other_command : (line name rest : List ℕ) → Some (name, rest) ≡ parts_of line → bytes_eq name set_language ≡ false → language_chosen (command_in english commands line) ≡ None
  other_command line name rest e other = ap (λ words. language_chosen (spelled english commands words)) (words_cut line name rest e) ∙ unchosen commands all_rows name (lines.words_of rest) other

  lone_word : (name : List ℕ) (is : Bool) → bytes_eq name set_language ≡ is → language_chosen (spelled english commands (name ∷ [])) ≡ None
  lone_word name true is = ap (λ n. language_chosen (spelled english commands (n ∷ []))) ((bytes_eq-Decides name set_language).0 is) ∙ ap language_chosen (chosen [])
  lone_word name false other = unchosen commands all_rows name [] other

  pub no_command : (line : List ℕ) → None ≡ parts_of line → language_chosen (command_in english commands line) ≡ None
  no_command line e = ap (λ words. language_chosen (spelled english commands words)) (words_uncut line e) ∙ lone_word line _ refl

  its_command : (line name rest : List ℕ) → Some (name, rest) ≡ parts_of line → bytes_eq name set_language ≡ true → IfSome (command_in english commands line) (λ c. IsSome (language_chosen (Some c)))
  its_command line name rest e is =
      let spells = ap (spelled english commands) (words_cut line name rest e) ∙ ap (λ n. spelled english commands (n ∷ lines.words_of rest)) ((bytes_eq-Decides name set_language).0 is) ∙ chosen (lines.words_of rest) in
      subst (λ o. IfSome o (λ c. IsSome (language_chosen (Some c)))) (sym spells) (is_chosen _)

-- By what a test of the name tells. ----

module _ (line name rest : List ℕ) (is : Bool) (cut : Some (name, rest) ≡ parts_of line) (tells : is ≡ bytes_eq name (chars set_language)) where
  told : (t : Bool) → is ≡ t → bytes_eq name set_language ≡ t
  told t e = ap (bytes_eq name) (sym name_chars) ∙ sym tells ∙ e

  pub tells_no : is ≡ false → (english : List (List ℕ)) → language_chosen (command_in english commands line) ≡ None
  tells_no e english = other_command english line name rest cut (told false e)

  pub tells_yes : is ≡ true → (english : List (List ℕ)) → IfSome (command_in english commands line) (λ c. IsSome (language_chosen (Some c)))
  tells_yes e english = its_command english line name rest cut (told true e)
