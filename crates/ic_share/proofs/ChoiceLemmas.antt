-- What a choice of a language leaves of a book and of the users' languages.
use Rattle.std.proofs.Common.{◌≡◌, ℕ, List, [], true, false, Option, Some, None, Ok, Err, refl, sym, ap}
use Rattle.std.specs.FinMap as finite
use Rattle.std.specs.Prelude.{IfSome, IsSome}
use Rattle.ic_laws.specs.CoreStep.{Outcome}
use Rattle.ic_machine.specs.Book.{Book, as_core}
use Rattle.ic_machine.specs.Command.{Command, OnArrays, OnDefinitions, OnExtending, OnLayout, OnNotation, OnReading, OnSheets, OnStyles, OnTabs, OnWriting}
use Rattle.ic_machine.specs.Reply.{Reply}
use Rattle.ic_machine.specs.Step.{command_step, outcome_of}
use Rattle.ic_machine.specs.subjects.Notation as notation
use Rattle.ic_machine.specs.subjects.Notation.{set_language_step}
use Rattle.ic_run.specs.Make.{is_ok}
use Rattle.ic_share.specs.Shared.{Languages, in_language, language_chosen, languages_left, with_choice}

-- a line that chooses one, if it is a command
abbrev pub Chooses : Option Command → Type 0
Chooses command = IfSome command (λ c. IsSome (language_chosen (Some c)))

-- what is so of no command and of each that chooses a language is so of every one that chooses one if it is a command
by_choice : (P : Option Command → Type 0) → P None → ((id : List ℕ) → P (Some (OnNotation (notation.SetLanguage id)))) → (command : Option Command) → Chooses command → P command
by_choice P none some None e = none
by_choice P none some (Some (OnNotation (notation.SetLanguage id))) e = some id
by_choice P none some (Some (OnNotation (notation.SetLocale id))) e = absurd (cc)
by_choice P none some (Some (OnNotation (notation.SetTimezone id))) e = absurd (cc)
by_choice P none some (Some (OnNotation notation.GetLocale)) e = absurd (cc)
by_choice P none some (Some (OnNotation notation.GetLanguage)) e = absurd (cc)
by_choice P none some (Some (OnNotation notation.GetTimezone)) e = absurd (cc)
by_choice P none some (Some (OnNotation notation.GetFmtSettings)) e = absurd (cc)
by_choice P none some (Some (OnSheets command)) e = absurd (cc)
by_choice P none some (Some (OnDefinitions command)) e = absurd (cc)
by_choice P none some (Some (OnWriting command)) e = absurd (cc)
by_choice P none some (Some (OnReading command)) e = absurd (cc)
by_choice P none some (Some (OnExtending command)) e = absurd (cc)
by_choice P none some (Some (OnStyles command)) e = absurd (cc)
by_choice P none some (Some (OnLayout command)) e = absurd (cc)
by_choice P none some (Some (OnTabs command)) e = absurd (cc)
by_choice P none some (Some (OnArrays command)) e = absurd (cc)

module _ (book : Book) where
  -- a choice changes the language of a book alone
  in_one_language : (id : List ℕ) (made : Outcome) → in_language [] (outcome_of book (as_core made (in_language id book))).0 ≡ in_language [] book
  in_one_language id (Ok done) = refl
  in_one_language id (Err refusal) = refl

  pub but_language : (command : Option Command) → Chooses command → in_language [] (command_step book command).0 ≡ in_language [] book
  unfolding set_language_step
  but_language = by_choice (λ command. in_language [] (command_step book command).0 ≡ in_language [] book) refl (λ id. in_one_language id _)

  module _ (user : List ℕ) (languages : Languages) where
    -- an accepted one puts it in force, and makes it the user's
    accepted : (language id : List ℕ) (made : Outcome) → let done = outcome_of book (as_core made (in_language id book)) in is_ok done.1 ≡ true → language ≡ done.0.language
        → finite.insert languages user language ≡ languages_left user (Some (OnNotation (notation.SetLanguage id))) done.1 languages
    accepted language id (Ok done) ok e = ap (finite.insert languages user) e
    accepted language id (Err refusal) ok e = absurd (cc)

    pub choice_made : (language : List ℕ) (command : Option Command) → Chooses command → is_ok (command_step book command).1 ≡ true → language ≡ (command_step book command).0.language
        → finite.insert languages user language ≡ languages_left user command (command_step book command).1 languages
    unfolding set_language_step
    choice_made language = by_choice
        (λ command. is_ok (command_step book command).1 ≡ true → language ≡ (command_step book command).0.language → finite.insert languages user language ≡ languages_left user command (command_step book command).1 languages)
        (λ ok e. absurd (let no : false ≡ true = ok in cc)) (λ id. accepted language id _)

-- where none is made, the languages stay
pub choice_refused : (user : List ℕ) (command : Option Command) (reply : Reply) (languages : Languages) → is_ok reply ≡ false → languages ≡ languages_left user command reply languages
choice_refused user command (Ok fields) languages e = absurd (cc)
choice_refused user command (Err refusal) languages e = refl

pub choice_none : (user : List ℕ) (command : Option Command) (reply : Reply) (languages : Languages) → language_chosen command ≡ None → languages ≡ languages_left user command reply languages
choice_none user command (Ok fields) languages e = sym (ap (λ o. with_choice user o languages) e)
choice_none user command (Err refusal) languages e = refl
