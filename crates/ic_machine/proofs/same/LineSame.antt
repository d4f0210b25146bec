-- A line that is translated is a command that leaves the same.
use Rattle.std.proofs.Common.{◌≡◌, ℕ, List, Bool, true, false, cond, Option, Some, None, Ok, Err, refl, sym, ap, subst, ◌∙◌}
use Rattle.std.proofs.lemmas.Bool.{or_parts}
use Rattle.std.specs.Prelude.{option_and_then, option_map}
use Rattle.ic_tables.specs.Tables.{TableSet, english, error_words_in}
use Rattle.ic_machine.specs.Book.{Book, Stepped}
use Rattle.ic_machine.specs.Command.{Command, OnArrays, OnDefinitions, OnExtending, OnLayout, OnNotation, OnReading, OnSheets, OnStyles, OnTabs, OnWriting, command_in, commands}
use Rattle.ic_machine.specs.Readers.{is_reader}
use Rattle.ic_machine.specs.Reply.{Field, Reply}
use Rattle.ic_machine.specs.Same.{IsSameBook}
use Rattle.ic_machine.specs.Step.{command_step, english_errors, line_step, outcome_of, step}
use Rattle.ic_machine.specs.Translation.{AreTranslatedTexts, IsKeptLine, in_notation, is_dropped, is_switch, kept_command, kept_in, left_by, line_of, own_formula, texts_of, why_line_not, why_not}
use Rattle.ic_machine.specs.TranslationLaws.{BodyEndsPlain, ErrorsEndPlain, IsBeside, IsWritable, LeavesSame, looks_at_notation}
use Rattle.ic_machine.specs.subjects.Arrays as arrays
use Rattle.ic_machine.specs.subjects.Definitions as definitions
use Rattle.ic_machine.specs.subjects.Definitions.{Update}
use Rattle.ic_machine.specs.subjects.Sheets as sheets
use Rattle.ic_machine.specs.subjects.Writing as writing
use Rattle.ic_machine.proofs.same.ArraySame.{array_is_same}
use Rattle.ic_machine.proofs.same.DefinitionSame.{definition_is_same}
use Rattle.ic_machine.proofs.same.FormulaSame.{formula_is_same}
use Rattle.ic_machine.proofs.same.InputSame.{input_is_same}
use Rattle.ic_machine.proofs.again.LineRead.{IsRead, is_read, last_line, same_line, sheet_line}
use Rattle.ic_machine.proofs.same.NewSheetSame.{new_sheet_is_same}
use Rattle.ic_machine.proofs.valid.NotationStays.{IsSameNotation, KeepsNotation, KeepsNotationUnless, notation_stays}
use Rattle.ic_machine.proofs.same.OthersSame.{others_are_same}
use Rattle.ic_machine.proofs.same.UpdateSame.{update_ends_plain, update_is_same}

-- a line is accepted, leaves the same as another, and keeps the notation
pub record LineStays (left other : Book) (new : List ℕ) : Type 0 where
  pub fields : List Field
  pub accepted : (line_step commands other new).1 ≡ Ok fields
  pub same : IsSameBook left (line_step commands other new).0
  pub notation : IsSameNotation other (line_step commands other new).0

-- what is known of a command that is kept
pub record IsKeptAs (book : Book) (line : List ℕ) (command : Command) (left : Book) : Type 0 where
  pub read : command_in (english_errors book) commands line ≡ Some command
  pub stays : is_dropped command ≡ false
  pub fields : List Field
  pub stepped : step book command ≡ Ok (left, fields)

left_of : (stepped : Stepped Book) (left : Book) → left_by stepped ≡ Some left → (fields : List Field) × (stepped ≡ Ok (left, fields))
left_of (Err refusal) left e = absurd (cc)
left_of (Ok done) left e =
    let same : done.0 ≡ left = cc in
    (done.1, ap (λ (x : Book). let stepped : Stepped Book = Ok (x, done.1) in stepped) same)

pub kept_as : (book : Book) (line : List ℕ) (command : Command) (left : Book) → kept_in book line ≡ Some (command, left) → IsKeptAs book line command left
kept_as book line command left e = by_command (command_in (english_errors book) commands line) refl e
  where
    by_step : (c : Command) → command_in (english_errors book) commands line ≡ Some c → is_dropped c ≡ false → (o : Option Book) → left_by (step book c) ≡ o
        → option_map (λ x. let kept : Command × Book = (c, x) in kept) o ≡ Some (command, left) → IsKeptAs book line command left
    by_step c read stays None stepped h = absurd (cc)
    by_step c read stays (Some x) stepped h =
        let pair : ◌≡◌ {A = Command × Book} (c, x) (command, left) = cc in
        let done = left_of (step book c) x stepped in
        let whole : IsKeptAs book line c x = record { read = read; stays = stays; fields = done.0; stepped = done.1 } in
        subst (λ (p : Command × Book). IsKeptAs book line p.0 p.1) pair whole

    by_drop : (c : Command) → command_in (english_errors book) commands line ≡ Some c → (b : Bool) → is_dropped c ≡ b
        → cond b None (option_map (λ x. let kept : Command × Book = (c, x) in kept) (left_by (step book c))) ≡ Some (command, left) → IsKeptAs book line command left
    by_drop c read true drop h = absurd (cc)
    by_drop c read false drop h = by_step c read drop (left_by (step book c)) refl h

    by_command : (o : Option Command) → command_in (english_errors book) commands line ≡ o → option_and_then (kept_command book) o ≡ Some (command, left) → IsKeptAs book line command left
    by_command None read h = absurd (cc)
    by_command (Some c) read h = by_drop c read (is_dropped c) refl h

-- where it updates a definition, the new body doesn't end with a blank in the target
abbrev EndsPlain : (book : Book) (line : List ℕ) (left target : Book) → Type 0
EndsPlain book line left target =
    (update : Update) → IsKeptAs book line (OnDefinitions (definitions.UpdateDefinedName update)) left → BodyEndsPlain book target (OnDefinitions (definitions.UpdateDefinedName update))

module _ (locale language : List ℕ) (book left other : Book) (line : List ℕ) (beside : IsBeside locale language book other) (plain : EndsPlain book line left (in_notation locale language left)) where
  abbrev Goal : List ℕ → Type 0
  Goal new = LineStays left other new

  english_same : english_errors other ≡ english_errors book
  english_same = ap (λ (t : TableSet). error_words_in (english t.languages)) (sym beside.same.tables)

  -- a line that is a command which leaves the same
  leaves : (new : List ℕ) (command : Command) → command_in (english_errors book) commands new ≡ Some command → is_switch command ≡ false → LeavesSame left (step other command) → Goal new
  leaves new command read no_switch same =
      let there : command_in (english_errors other) commands new ≡ Some command = ap (λ (words : List (List ℕ)). command_in words commands new) english_same ∙ read in
      let is : line_step commands other new ≡ (same.0, Ok same.1.0) = ap (command_step other) there ∙ ap (outcome_of other) same.1.1.0 in
      let left_is : (line_step commands other new).0 ≡ same.0 = ap (λ (p : Book × Reply). p.0) is in
      let kept : KeepsNotation other (step other command) = subst (λ (t : Bool). KeepsNotationUnless t other (step other command)) no_switch (notation_stays other command) in
      record {
        fields = same.1.0;
        accepted = ap (λ (p : Book × Reply). p.1) is;
        same = subst (IsSameBook left) (sym left_is) same.1.1.1;
        notation = subst (IsSameNotation other) (sym left_is) (subst (KeepsNotation other) same.1.1.0 kept);
      }

  module _ (command : Command) (kept : IsKeptAs book line command left) (writable : IsWritable locale language book command) where
    read : IsRead (english_errors book) line command
    read = is_read (english_errors book) line command kept.read

    -- the same texts
    others : (texts : List (List ℕ)) (new : List ℕ) → texts ≡ texts_of line → new ≡ line_of texts → looks_at_notation command ≡ false → Goal new
    others texts new same is looks =
        leaves new command (ap (command_in (english_errors book) commands) (is ∙ ap line_of same) ∙ same_line (english_errors book) line command read) (or_parts (is_reader command) (is_switch command) kept.stays).1
        (others_are_same locale language book left other kept.fields command beside looks kept.stepped)

  abbrev target : Book
  target = in_notation locale language left

  by_command : (command : Command) → IsKeptAs book line command left → IsWritable locale language book command → (texts : List (List ℕ)) (new : List ℕ) → AreTranslatedTexts book target command (texts_of line) texts → new ≡ line_of texts
      → Goal new
  by_command (OnSheets sheets.NewSheet) kept writable texts new are is =
      leaves new (OnSheets (sheets.AddSheet (sheets.new_sheet_name book))) (ap (command_in (english_errors book) commands) (is ∙ ap line_of are) ∙ sheet_line (english_errors book) (sheets.new_sheet_name book)) refl
      (new_sheet_is_same locale language book left other kept.fields beside kept.stepped)
  by_command (OnSheets command) kept writable texts new are is = others (OnSheets command) kept writable texts new are is kept.stays
  by_command (OnWriting (writing.SetUserInput sheet row column text)) kept writable texts new are is =
      leaves new (OnWriting (writing.SetUserInput sheet row column are.0))
      (ap (command_in (english_errors book) commands) (is ∙ ap line_of are.1.0)
      ∙ last_line (english_errors book) line (OnWriting (writing.SetUserInput sheet row column text)) (is_read (english_errors book) line (OnWriting (writing.SetUserInput sheet row column text)) kept.read) are.0
      (OnWriting (writing.SetUserInput sheet row column are.0)) refl) refl
      (input_is_same locale language book left other kept.fields sheet row column text are.0 beside kept.stepped writable are.1.1)
  by_command (OnWriting (writing.UpdateCellWithFormula sheet row column text)) kept writable texts new are is =
      leaves new _
      (ap (command_in (english_errors book) commands) (is ∙ ap line_of are)
      ∙ last_line (english_errors book) line (OnWriting (writing.UpdateCellWithFormula sheet row column text)) (is_read (english_errors book) line (OnWriting (writing.UpdateCellWithFormula sheet row column text)) kept.read) _
      _ refl) refl
      (formula_is_same locale language book left other kept.fields sheet row column text beside kept.stepped writable)
  by_command (OnWriting command) kept writable texts new are is = others (OnWriting command) kept writable texts new are is kept.stays
  by_command (OnArrays (arrays.SetUserArrayFormula sheet block text)) kept writable texts new are is =
      leaves new _
      (ap (command_in (english_errors book) commands) (is ∙ ap line_of are)
      ∙ last_line (english_errors book) line (OnArrays (arrays.SetUserArrayFormula sheet block text)) (is_read (english_errors book) line (OnArrays (arrays.SetUserArrayFormula sheet block text)) kept.read) _ _ refl) refl
      (array_is_same locale language book left other kept.fields sheet block text beside kept.stepped writable)
  by_command (OnArrays command) kept writable texts new are is = others (OnArrays command) kept writable texts new are is kept.stays
  by_command (OnDefinitions (definitions.NewDefinedName name scope body)) kept writable texts new are is =
      leaves new _
      (ap (command_in (english_errors book) commands) (is ∙ ap line_of are)
      ∙ last_line (english_errors book) line (OnDefinitions (definitions.NewDefinedName name scope body)) (is_read (english_errors book) line (OnDefinitions (definitions.NewDefinedName name scope body)) kept.read) _ _ refl) refl
      (definition_is_same locale language book left other kept.fields name scope body beside kept.stepped writable)
  by_command (OnDefinitions (definitions.UpdateDefinedName update)) kept writable texts new are is =
      leaves new _
      (ap (command_in (english_errors book) commands) (is ∙ ap line_of are)
      ∙ last_line (english_errors book) line (OnDefinitions (definitions.UpdateDefinedName update)) (is_read (english_errors book) line (OnDefinitions (definitions.UpdateDefinedName update)) kept.read) _ _ refl) refl
      (update_is_same locale language book left other kept.fields update beside kept.stepped writable (plain update kept))
  by_command (OnDefinitions command) kept writable texts new are is = others (OnDefinitions command) kept writable texts new are is kept.stays
  by_command (OnNotation command) kept writable texts new are is = others (OnNotation command) kept writable texts new are is kept.stays
  by_command (OnReading command) kept writable texts new are is = others (OnReading command) kept writable texts new are is kept.stays
  by_command (OnExtending command) kept writable texts new are is = others (OnExtending command) kept writable texts new are is kept.stays
  by_command (OnStyles command) kept writable texts new are is = others (OnStyles command) kept writable texts new are is kept.stays
  by_command (OnLayout command) kept writable texts new are is = others (OnLayout command) kept writable texts new are is kept.stays
  by_command (OnTabs command) kept writable texts new are is = others (OnTabs command) kept writable texts new are is kept.stays

-- what can't be written is told of the line
pub writable_of : (locale language : List ℕ) (book left : Book) (command : Command) (line : List ℕ) → kept_in book line ≡ Some (command, left)
    → option_and_then (λ (kept : Command × Book). option_and_then (why_not (in_notation locale language book)) (own_formula book kept.0)) (kept_in book line) ≡ None → IsWritable locale language book command
writable_of locale language book left command line kept none =
    sym (ap (option_and_then (λ (kept : Command × Book). option_and_then (why_not (in_notation locale language book)) (own_formula book kept.0))) kept) ∙ none

pub line_stays_same : (locale language : List ℕ) (book left other : Book) (command : Command) (line new : List ℕ) → IsBeside locale language book other → kept_in book line ≡ Some (command, left)
    → BodyEndsPlain book (in_notation locale language left) command → why_line_not locale language book line ≡ None → IsKeptLine locale language book line (command, left) new → LineStays left other new
line_stays_same locale language book left other command line new beside kept plain none are =
    let whole = kept_as book line command left kept in
    let ends : EndsPlain book line left (in_notation locale language left) =
    λ update k.
    let both : Some command ≡ Some (OnDefinitions (definitions.UpdateDefinedName update)) = sym whole.read ∙ k.read in
    let same : command ≡ OnDefinitions (definitions.UpdateDefinedName update) = cc in
    subst (BodyEndsPlain book (in_notation locale language left)) same plain in
    by_command locale language book left other line beside ends command whole (writable_of locale language book left command line kept none) are.0 new are.1.0 are.1.1

-- where no error word ends with a blank, no body does that a line updates
body_ends_plain : (locale language : List ℕ) (book left other : Book) (line : List ℕ) (command : Command) → IsBeside locale language book other → ErrorsEndPlain other → IsKeptAs book line command left
    → IsWritable locale language book command → BodyEndsPlain book (in_notation locale language left) command
body_ends_plain locale language book left other line (OnDefinitions (definitions.UpdateDefinedName update)) beside plain_ends kept writable =
    update_ends_plain locale language book left other kept.fields update beside kept.stepped writable plain_ends
body_ends_plain locale language book left other line command beside plain_ends kept writable = tt

pub line_ends_plain : (locale language : List ℕ) (book left other : Book) (command : Command) (line : List ℕ) → IsBeside locale language book other → ErrorsEndPlain other → kept_in book line ≡ Some (command, left)
    → why_line_not locale language book line ≡ None → BodyEndsPlain book (in_notation locale language left) command
line_ends_plain locale language book left other command line beside plain_ends kept none =
    body_ends_plain locale language book left other line command beside plain_ends (kept_as book line command left kept) (writable_of locale language book left command line kept none)
