-- Translated lines are accepted and leave the same.
use Rattle.std.proofs.Common.{◌≡◌, ℕ, ◌+◌, List, [], ◌∷◌, Option, Some, None, refl, sym, ap, ap₂, subst, ◌∙◌}
use Rattle.std.specs.List.{AllZip}
use Rattle.std.specs.Prelude.{reverse}
use Rattle.ic_laws.specs.Scan.{first_is, is_blank}
use Rattle.ic_tables.specs.Tables.{TableSet}
use Rattle.ic_tree.specs.Notations.{notations_of}
use Rattle.ic_machine.specs.Book.{Book, Sheet, Stepped}
use Rattle.ic_machine.specs.Command.{Command, commands}
use Rattle.ic_machine.specs.InForce.{error_in}
use Rattle.ic_machine.specs.Run.{after}
use Rattle.ic_machine.specs.Same.{IsSameBook, IsSameSheet}
use Rattle.ic_machine.specs.Step.{command_step, machine, outcome_of}
use Rattle.ic_machine.specs.Translation.{AreTranslated, StandsBefore, Why, first_hindered, first_of, kept_in, left_after, why_line_not}
use Rattle.ic_machine.specs.TranslationLaws.{AreAccepted, BodiesEndPlain, ErrorsEndPlain, IsBeside, KeptEndsPlain, PlainErrorsEndBodies, TranslationKeepsBook}
use Rattle.ic_machine.proofs.same.GoneLemmas.{gone_is_same}
use Rattle.ic_machine.proofs.same.LineSame.{LineStays, kept_as, line_ends_plain, line_stays_same}
use Rattle.ic_machine.proofs.valid.LineStays.{line_stays}
use Rattle.ic_machine.proofs.valid.NotationStays.{IsSameNotation}

-- two books that are each the same as one between
sheet_joined : (r s t : Sheet) → IsSameSheet r s → IsSameSheet s t → IsSameSheet r t
sheet_joined r s t one other = record {
  id = one.id ∙ other.id;
  name = one.name ∙ other.name;
  pool = one.pool ∙ other.pool;
  grid = record {
    contents = λ place. one.grid.contents place ∙ other.grid.contents place;
    rows = λ row. one.grid.rows row ∙ other.grid.rows row;
    columns = λ column. one.grid.columns column ∙ other.grid.columns column;
    merges = one.grid.merges ∙ other.grid.merges;
  };
  tab = one.tab ∙ other.tab;
}

sheets_joined : (rs ss ts : List Sheet) → AllZip IsSameSheet rs ss → AllZip IsSameSheet ss ts → AllZip IsSameSheet rs ts
sheets_joined [] [] [] one other = tt
sheets_joined [] [] (t ∷ ts) one other = absurd other
sheets_joined [] (s ∷ ss) ts one other = absurd one
sheets_joined (r ∷ rs) [] ts one other = absurd one
sheets_joined (r ∷ rs) (s ∷ ss) [] one other = absurd other
sheets_joined (r ∷ rs) (s ∷ ss) (t ∷ ts) one other = (sheet_joined r s t one.0 other.0, sheets_joined rs ss ts one.1 other.1)

book_joined : (a b c : Book) → IsSameBook a b → IsSameBook b c → IsSameBook a c
book_joined a b c one other = record {
  sheets = sheets_joined a.sheets b.sheets c.sheets one.sheets other.sheets;
  definitions = one.definitions ∙ other.definitions;
  zone = one.zone ∙ other.zone;
  theme = one.theme ∙ other.theme;
  name = one.name ∙ other.name;
  metadata = one.metadata ∙ other.metadata;
  tables = one.tables ∙ other.tables;
}

-- with the notation stay the words of the error values
plain_stays : (other left : Book) → IsSameNotation other left → ErrorsEndPlain other → ErrorsEndPlain left
plain_stays other left same plain e =
    ap (λ (t : TableSet). first_is is_blank (reverse (error_in (record left { tables = t }) e))) same.tables
    ∙ ap₂ (λ (locale language : List ℕ). first_is is_blank (reverse (error_in (record left { tables = other.tables; locale = locale; language = language }) e))) same.locale same.language
    ∙ plain e

none_first : (number : ℕ) (o : Option Why) (others : Option (ℕ × Why)) → first_of number o others ≡ None → (o ≡ None) × (others ≡ None)
none_first number None others e = (refl, e)
none_first number (Some why) others e = absurd (cc)

module _ (locale language : List ℕ) where
  abbrev Keeps : Book → Book → List (List ℕ) → List (List ℕ) → Type 0
  Keeps book other lines new = AreAccepted other new × IsSameBook (after (machine commands) book lines) (after (machine commands) other new)

  -- the other books that lines leave, after one that goes and after one that is kept
  beside_gone : (book other : Book) (line : List ℕ) → IsBeside locale language book other → kept_in book line ≡ None → IsBeside locale language (left_after book line) other
  beside_gone book other line beside gone = record {
    valid = line_stays book beside.valid line;
    known_locale = ap (λ (t : TableSet). (notations_of t).knows_locale locale) (gone_is_same book line gone).tables ∙ beside.known_locale;
    known_language = ap (λ (t : TableSet). (notations_of t).knows_language language) (gone_is_same book line gone).tables ∙ beside.known_language;
    same = book_joined (left_after book line) book other (gone_is_same book line gone) beside.same;
    locale_is = beside.locale_is;
    language_is = beside.language_is;
  }

  tables_kept : (book other left : Book) (line new : List ℕ) → IsBeside locale language book other → left_after book line ≡ left → LineStays left other new → (left_after book line).tables ≡ book.tables
  tables_kept book other left line new beside is stays = ap (λ (b : Book). b.tables) is ∙ stays.same.tables ∙ stays.notation.tables ∙ sym beside.same.tables

  beside_kept : (book other left : Book) (line new : List ℕ) → IsBeside locale language book other → left_after book line ≡ left → LineStays left other new → IsBeside locale language (left_after book line) (left_after other new)
  beside_kept book other left line new beside is stays = record {
    valid = line_stays book beside.valid line;
    known_locale = ap (λ (t : TableSet). (notations_of t).knows_locale locale) (tables_kept book other left line new beside is stays) ∙ beside.known_locale;
    known_language = ap (λ (t : TableSet). (notations_of t).knows_language language) (tables_kept book other left line new beside is stays) ∙ beside.known_language;
    same = subst (λ (b : Book). IsSameBook b (left_after other new)) (sym is) stays.same;
    locale_is = stays.notation.locale ∙ beside.locale_is;
    language_is = stays.notation.language ∙ beside.language_is;
  }

  -- what a line that is kept leaves
  kept_left : (book left : Book) (line : List ℕ) (command : Command) → kept_in book line ≡ Some (command, left) → left_after book line ≡ left
  kept_left book left line command e =
      let kept = kept_as book line command left e in
      ap (λ (o : Option Command). (command_step book o).0) kept.read ∙ ap (λ (stepped : Stepped Book). (outcome_of book stepped).0) kept.stepped

  -- what is known of the lines after one
  abbrev OthersKeep : Book → List (List ℕ) → ℕ → Type 0
  OthersKeep book lines number =
      (new : List (List ℕ)) (other : Book) → IsBeside locale language book other → BodiesEndPlain locale language book lines → first_hindered locale language number book lines ≡ None → AreTranslated locale language book lines new
      → Keeps book other lines new

  keeps : (lines new : List (List ℕ)) (book other : Book) (number : ℕ) → IsBeside locale language book other → BodiesEndPlain locale language book lines → first_hindered locale language number book lines ≡ None
      → AreTranslated locale language book lines new → Keeps book other lines new
  keeps [] new book other number beside plain free are = subst (Keeps book other []) (sym are) (tt, beside.same)
  keeps (line ∷ lines) new book other number beside plain free are = by_kept (kept_in book line) refl plain.0 new are (λ new other. keeps lines new (left_after book line) other (number + 1))
    where
      hindered : (why_line_not locale language book line ≡ None) × (first_hindered locale language (number + 1) (left_after book line) lines ≡ None)
      hindered = none_first number (why_line_not locale language book line) (first_hindered locale language (number + 1) (left_after book line) lines) free

      by_kept : (o : Option (Command × Book)) → kept_in book line ≡ o → KeptEndsPlain locale language book o → (new : List (List ℕ)) → StandsBefore locale language book line o (AreTranslated locale language (left_after book line) lines) new
          → OthersKeep (left_after book line) lines (number + 1) → Keeps book other (line ∷ lines) new
      by_kept None e here new are others = others new other (beside_gone book other line beside e) plain.1 hindered.1 are
      by_kept (Some kept) e here [] are others = absurd are
      by_kept (Some kept) e here (first ∷ rest) are others =
          let stays = line_stays_same locale language book kept.1 other kept.0 line first beside e here hindered.0 are.0 in
          let more = others rest (left_after other first) (beside_kept book other kept.1 line first beside (kept_left book kept.1 line kept.0 e) stays) plain.1 hindered.1 are.1 in
          (((stays.fields, stays.accepted), more.0), more.1)

  -- where no error word ends with a blank, no body does
  abbrev OthersEnd : Book → List (List ℕ) → ℕ → Type 0
  OthersEnd book lines number =
      (new : List (List ℕ)) (other : Book) → IsBeside locale language book other → ErrorsEndPlain other → first_hindered locale language number book lines ≡ None → AreTranslated locale language book lines new
      → BodiesEndPlain locale language book lines

  ends : (lines new : List (List ℕ)) (book other : Book) (number : ℕ) → IsBeside locale language book other → ErrorsEndPlain other → first_hindered locale language number book lines ≡ None
      → AreTranslated locale language book lines new → BodiesEndPlain locale language book lines
  ends [] new book other number beside plain free are = tt
  ends (line ∷ lines) new book other number beside plain free are = by_kept (kept_in book line) refl new are (λ new other. ends lines new (left_after book line) other (number + 1))
    where
      hindered : (why_line_not locale language book line ≡ None) × (first_hindered locale language (number + 1) (left_after book line) lines ≡ None)
      hindered = none_first number (why_line_not locale language book line) (first_hindered locale language (number + 1) (left_after book line) lines) free

      by_kept : (o : Option (Command × Book)) → kept_in book line ≡ o → (new : List (List ℕ)) → StandsBefore locale language book line o (AreTranslated locale language (left_after book line) lines) new → OthersEnd (left_after book line) lines (number + 1)
          → KeptEndsPlain locale language book o × BodiesEndPlain locale language (left_after book line) lines
      by_kept None e new are others = (tt, others new other (beside_gone book other line beside e) plain hindered.1 are)
      by_kept (Some kept) e [] are others = absurd are
      by_kept (Some kept) e (first ∷ rest) are others =
          let here = line_ends_plain locale language book kept.1 other kept.0 line beside plain e hindered.0 in
          let stays = line_stays_same locale language book kept.1 other kept.0 line first beside e here hindered.0 are.0 in
          (here, others rest (left_after other first) (beside_kept book other kept.1 line first beside (kept_left book kept.1 line kept.0 e) stays) (plain_stays other (left_after other first) stays.notation plain) hindered.1 are.1)

pub translation_keeps_book : (locale language : List ℕ) → TranslationKeepsBook locale language
translation_keeps_book locale language book other lines new beside plain free are = keeps locale language lines new book other 1 beside plain free are

pub errors_end_bodies : (locale language : List ℕ) → PlainErrorsEndBodies locale language
errors_end_bodies locale language book other lines new beside plain free are = ends locale language lines new book other 1 beside plain free are
