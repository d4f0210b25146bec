-- Translated lines are accepted by other books; and the status tells whether some line can't be translated.
use Rattle.std.proofs.Common.{◌≡◌, ℕ, List, [], ◌∷◌, Option, Some, None, Result, Ok, Err, refl, sym, ap, subst, ◌∙◌, if◌then◌else◌, true}
use Rattle.std.specs.Prelude.{is_none, is_some}
use Rattle.ic_laws.specs.Lines.{texts_of}
use Rattle.ic_laws.specs.Refusal.{InvalidLanguage, InvalidLocale, first_refusal}
use Rattle.ic_lines.proofs.ToldLemmas.{IfTold-weaker}
use Rattle.ic_lines.specs.Bytes.{IfTold}
use Rattle.ic_tables.specs.Tables.{TableSet, language_of, locale_of}
use Rattle.ic_tables.specs.declared.language.Language.{Language}
use Rattle.ic_tables.specs.declared.locale.NamedLocale.{NamedLocale}
use Rattle.ic_tree.proofs.NotationLaws.{knows_language_is, knows_locale_is}
use Rattle.ic_machine.specs.Book.{Book}
use Rattle.ic_machine.specs.Command.{commands}
use Rattle.ic_machine.specs.Run.{after}
use Rattle.ic_machine.specs.Same.{IsSameBook}
use Rattle.ic_machine.specs.Step.{machine}
use Rattle.ic_machine.specs.Translation.{IsTranslation, Why}
use Rattle.ic_machine.specs.TranslationLaws.{IsBeside}
use Rattle.ic_machine.specs.Valid.{IsValidBook}
use Rattle.ic_machine.proofs.same.MetadataFree.{hindered_same}
use Rattle.ic_machine.proofs.same.TranslationSame.{translation_keeps_book}
use Rattle.ic_parts.specs.Book as held
use Rattle.ic_parts.specs.Book.{metadata_made}
use Rattle.ic_parts.specs.Translated.{notation_refusal}
use Rattle.ic_parts.specs.Whole.{whole_of}
use Rattle.ic_run.specs.Desk.{start_book}
use Rattle.ic_run.specs.Make.{made_setting}
use Rattle.ic_run.specs.Translate.{AreAcceptedBeside, IsDue, Target, due_status, translation_status}

-- the tables have a notation of which nothing is told to be unknown
both_known : (l : Option NamedLocale) (g : Option Language) → None ≡ first_refusal ((is_none l, InvalidLocale) ∷ (is_none g, InvalidLanguage) ∷ []) → (is_some l ≡ true) × (is_some g ≡ true)
both_known (Some l) (Some g) e = (refl, refl)
both_known (Some l) None e = absurd (cc)
both_known None g e = absurd (cc)

-- what all lines became is accepted
pub accepted_beside : (locale language : List ℕ) (old left : Book) (lines new : List (List ℕ)) → IsValidBook old → None ≡ notation_refusal locale language old.tables → IsTranslation locale language old lines (Ok new) left
    → AreAcceptedBeside locale language old lines left new
accepted_beside locale language old left lines new valid known is other same locale_is language_is plain =
    let both = both_known (locale_of old.tables locale) (language_of old.tables language) known in
    let beside : IsBeside locale language old other = record {
      valid = valid;
      known_locale = knows_locale_is old.tables locale ∙ both.0;
      known_language = knows_language_is old.tables language ∙ both.1;
      same = same;
      locale_is = locale_is;
      language_is = language_is;
    } in
    let keeps = translation_keeps_book locale language old other lines new beside plain is.0 is.1 in
    (keeps.0, subst (λ (book : Book). IsSameBook book (after (machine commands) other new)) (sym is.2) keeps.1)

-- the status tells what the answer is
pub due_of : (target : Target) (book left : Book) (lines : List (List ℕ)) (answer : Result (List (List ℕ)) (ℕ × Why)) → IsTranslation target.locale target.language book lines answer left
    → due_status target book lines ≡ translation_status answer
due_of target book left lines (Ok new) is = ap (λ (o : Option (ℕ × Why)). if is_some o then 7 else 0) is.0
due_of target book left lines (Err cannot) is = ap (λ (o : Option (ℕ × Why)). if is_some o then 7 else 0) is.0

-- whenever the new book was made
due_anytime : (target : Target) (tables : TableSet) (created other : List ℕ) (lines : List (List ℕ))
    → due_status target (whole_of (start_book made_setting created tables)) lines ≡ due_status target (whole_of (start_book made_setting other tables)) lines
due_anytime target tables created other lines =
    ap (λ (o : Option (ℕ × Why)). if is_some o then 7 else 0)
    (hindered_same target.locale target.language (metadata_made other) lines (whole_of (start_book made_setting created tables)) 1)

pub translated_due : (target : Target) (tables : TableSet) (book : held.Book) (created : List ℕ) → book ≡ start_book made_setting created tables → (source left : Option (List ℕ)) (r : ℕ)
    → IfTold source left (λ bytes _. due_status target (whole_of book) (texts_of bytes) ≡ r) → IfTold source left (λ bytes _. IsDue target tables r bytes)
translated_due target tables book created is source left r =
    IfTold-weaker source left (λ bytes _. due_status target (whole_of book) (texts_of bytes) ≡ r) (λ bytes _. IsDue target tables r bytes)
    (λ bytes rest due other.
    due_anytime target tables other created (texts_of bytes) ∙ ap (λ (b : held.Book). due_status target (whole_of b) (texts_of bytes)) (sym is) ∙ due)
