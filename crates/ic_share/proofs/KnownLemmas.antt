-- The languages of a shared book stay those of its tables.
use Rattle.std.proofs.Common.{◌≡◌, ℕ, List, Bool, true, false, cond, Option, Some, None, Ok, Err, refl, sym, ap, subst, ◌∙◌}
use Rattle.std.specs.FinMap as finite
use Rattle.std.specs.Cmp.Lexicographic.{nat_list_cmp_total, slice_cmp}
use Rattle.std.specs.Option.{unwrap_or}
use Rattle.std.specs.Ordering.{eq_by_cmp, nat_cmp}
use Rattle.ic_laws.specs.CoreStep.{core_step}
use Rattle.ic_tables.specs.Tables.{TableSet}
use Rattle.ic_tree.specs.Notations.{notations_of}
use Rattle.ic_machine.specs.Book.{Book, Stepped, notations_in}
use Rattle.ic_machine.specs.Command.{Command, OnArrays, OnDefinitions, OnExtending, OnLayout, OnNotation, OnReading, OnSheets, OnStyles, OnTabs, OnWriting, command_in, commands}
use Rattle.ic_laws.specs.Refusal.{InvalidLanguage}
use Rattle.ic_machine.specs.Refusal.{OfCore}
use Rattle.ic_machine.specs.Reply.{Reply}
use Rattle.ic_machine.specs.Step.{command_step, english_errors, outcome_of}
use Rattle.ic_machine.specs.subjects.Notation as notation
use Rattle.ic_machine.specs.subjects.Notation.{set_language_step}
use Rattle.ic_run.proofs.TablesStay.{tables_stay}
use Rattle.ic_share.specs.Share.{IsKnown, OwnStays, SharedStaysKnown}
use Rattle.ic_share.specs.Shared.{Languages, SharedBook, in_language, language_chosen, language_of, languages_left, sent_step, with_choice}
use Rattle.ic_share.specs.Users.{Sent, sent_in}

step_unknown : (book : Book) (id : List ℕ) → (notations_in book).knows_language id ≡ false → set_language_step id book ≡ Err (OfCore InvalidLanguage)
unfolding set_language_step core_step
step_unknown book id e = rw e refl

same_found : (one other : List ℕ) → Some one ≡ Some other → one ≡ other
same_found one other e = ap (λ o. unwrap_or o one) e

module _ (book : Book) (user : List ℕ) (languages : Languages) (known : (name language : List ℕ) → finite.get languages name ≡ Some language → (notations_in book).knows_language language ≡ true) (name language : List ℕ) where
  abbrev Found : Languages → Type 0
  Found left = finite.get left name ≡ Some language → (notations_in book).knows_language language ≡ true

  unchosen : (command : Option Command) (reply : Reply) → language_chosen command ≡ None → Found (languages_left user command reply languages)
  unchosen command (Err refusal) e found = known name language found
  unchosen command (Ok fields) e found = known name language (sym (ap (λ o. finite.get (with_choice user o languages) name) e) ∙ found)

  put : (id : List ℕ) → (notations_in book).knows_language id ≡ true → (same : Bool) → cond same (Some id) (finite.get languages name) ≡ Some language → (notations_in book).knows_language language ≡ true
  put id e true found = subst (λ l. (notations_in book).knows_language l ≡ true) (same_found id language found) e
  put id e false found = known name language found

  accepted : (id : List ℕ) (reply : Reply) → (notations_in book).knows_language id ≡ true → Found (languages_left user (Some (OnNotation (notation.SetLanguage id))) reply languages)
  accepted id (Err refusal) e found = known name language found
  accepted id (Ok fields) e found = put id e (eq_by_cmp (slice_cmp nat_cmp) name user) (sym (finite.get-insert nat_list_cmp_total languages user id name) ∙ found)

  by_known : (id : List ℕ) (is : Bool) → (notations_in book).knows_language id ≡ is → Found (languages_left user (Some (OnNotation (notation.SetLanguage id))) (command_step book (Some (OnNotation (notation.SetLanguage id)))).1 languages)
  by_known id true e = accepted id (outcome_of book (set_language_step id book)).1 e
  by_known id false e = λ found.
      known name language
      (sym (ap (λ (made : Stepped Book). finite.get (languages_left user (Some (OnNotation (notation.SetLanguage id))) (outcome_of book made).1 languages) name) (step_unknown book id e)) ∙ found)

  choice_known : (command : Option Command) → Found (languages_left user command (command_step book command).1 languages)
  choice_known None = unchosen None (command_step book None).1 refl
  choice_known (Some (OnNotation (notation.SetLanguage id))) = by_known id _ refl
  choice_known (Some (OnNotation (notation.SetLocale id))) = unchosen (Some (OnNotation (notation.SetLocale id))) (command_step book (Some (OnNotation (notation.SetLocale id)))).1 refl
  choice_known (Some (OnNotation (notation.SetTimezone id))) = unchosen (Some (OnNotation (notation.SetTimezone id))) (command_step book (Some (OnNotation (notation.SetTimezone id)))).1 refl
  choice_known (Some (OnNotation notation.GetLocale)) = unchosen (Some (OnNotation notation.GetLocale)) (command_step book (Some (OnNotation notation.GetLocale))).1 refl
  choice_known (Some (OnNotation notation.GetLanguage)) = unchosen (Some (OnNotation notation.GetLanguage)) (command_step book (Some (OnNotation notation.GetLanguage))).1 refl
  choice_known (Some (OnNotation notation.GetTimezone)) = unchosen (Some (OnNotation notation.GetTimezone)) (command_step book (Some (OnNotation notation.GetTimezone))).1 refl
  choice_known (Some (OnNotation notation.GetFmtSettings)) = unchosen (Some (OnNotation notation.GetFmtSettings)) (command_step book (Some (OnNotation notation.GetFmtSettings))).1 refl
  choice_known (Some (OnSheets command)) = unchosen (Some (OnSheets command)) (command_step book (Some (OnSheets command))).1 refl
  choice_known (Some (OnDefinitions command)) = unchosen (Some (OnDefinitions command)) (command_step book (Some (OnDefinitions command))).1 refl
  choice_known (Some (OnWriting command)) = unchosen (Some (OnWriting command)) (command_step book (Some (OnWriting command))).1 refl
  choice_known (Some (OnReading command)) = unchosen (Some (OnReading command)) (command_step book (Some (OnReading command))).1 refl
  choice_known (Some (OnExtending command)) = unchosen (Some (OnExtending command)) (command_step book (Some (OnExtending command))).1 refl
  choice_known (Some (OnStyles command)) = unchosen (Some (OnStyles command)) (command_step book (Some (OnStyles command))).1 refl
  choice_known (Some (OnLayout command)) = unchosen (Some (OnLayout command)) (command_step book (Some (OnLayout command))).1 refl
  choice_known (Some (OnTabs command)) = unchosen (Some (OnTabs command)) (command_step book (Some (OnTabs command))).1 refl
  choice_known (Some (OnArrays command)) = unchosen (Some (OnArrays command)) (command_step book (Some (OnArrays command))).1 refl

-- what a line leaves is known again
pub known_stays : (shared : SharedBook) (sent : Option Sent) → IsKnown shared → IsKnown (sent_step shared sent).0
known_stays shared None known = known
known_stays shared (Some sent) known =
    let same = tables_stay (in_language (language_of shared sent.user) shared.book) sent.command in
    record {
      own = subst (λ (tables : TableSet). (notations_of tables).knows_language shared.book.language ≡ true) (sym same) known.own;
      chosen = λ name language found.
          subst (λ (tables : TableSet). (notations_of tables).knows_language language ≡ true) (sym same)
          (choice_known (in_language (language_of shared sent.user) shared.book) sent.user shared.languages known.chosen name language (command_in (english_errors shared.book) commands sent.command) found);
    }

own_left : (shared : SharedBook) (sent : Option Sent) → (sent_step shared sent).0.book.language ≡ shared.book.language
own_left shared None = refl
own_left shared (Some sent) = refl

pub shared_stays_known : SharedStaysKnown
shared_stays_known shared line = known_stays shared (sent_in line)

pub own_stays : OwnStays
own_stays shared line = own_left shared (sent_in line)
