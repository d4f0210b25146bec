-- What refuses a request, how a notation is put in force, and what the parts of an import tell together.
use Rattle.std.proofs.Common.{◌≡◌, ℕ, ℤ, List, [], ◌∷◌, Bool, true, false, cond, not, Option, Some, None, IsSome, String, Global, option_map, Result, Ok, Err, IfErr, is_err, length, refl, sym, ap, subst, ◌∙◌, inl, inr, string_bytes}
use Rattle.std.proofs.lemmas.Bool.{not-false}
use Rattle.std.specs.List.{slice_get}
use Rattle.std.specs.Prelude.{is_none}
use Rattle.ic_laws.specs.CoreStep as core
use Rattle.ic_laws.specs.CoreStep.{core_step}
use Rattle.ic_laws.specs.CoreBook.{CellPlace}
use Rattle.ic_cells.specs.declared.workbook.Workbook.{Workbook}
use Rattle.std.specs.Option.{option_map_or}
use Rattle.ic_workbooks.specs.Asked.{TellsHandedIn}
use Rattle.ic_workbooks.specs.HandedIn.{book_of}
use Rattle.ic_workbooks.specs.Workbook.{workbook_of}
use Rattle.ic_laws.specs.Position.{is_column, is_row}
use Rattle.ic_laws.specs.Refusal as refusals
use Rattle.ic_tables.specs.Tables.{TableSet, language_of, locale_of}
use Rattle.ic_tables.specs.declared.locale.Locale.{Locale}
use Rattle.ic_tables.specs.declared.locale.NamedLocale.{NamedLocale}
use Rattle.ic_tree.proofs.NotationLaws.{knows_language_is, knows_locale_is}
use Rattle.ic_tree.proofs.ShownLemmas.{separators_told}
use Rattle.ic_tree.specs.Shown.{list_of, list_separator}
use Rattle.ic_tables.specs.Formats.{has_separators}
use Rattle.std.specs.Prelude.{bytes_eq, codes}
use Rattle.std.specs.Str.{chars}
use Rattle.ic_machine.specs.Book as machine
use Rattle.ic_machine.specs.Book.{Sheet, Stepped, as_core, core_of, found_or, lacks_sheet, unless_refused}
use Rattle.ic_machine.specs.Refusal.{InvalidColumn, InvalidRow, InvalidSheet, OfCore, Refusal, first_refusal}
use Rattle.ic_machine.specs.Reply.{Field as Told, text_field}
use Rattle.ic_machine.specs.subjects.Notation.{GetLanguage, GetLocale, SetLanguage, SetLocale, get_language_step, get_locale_step, notation_step, set_language_step, set_locale_step}
use Rattle.ic_machine.specs.subjects.Reading.{IsEmptyCell, empty_step, reading_step}
use Rattle.ic_machine.proofs.valid.InsertedStays.{none_holds}
use Rattle.ic_parts.proofs.ExtendLemmas.{none_past, some_within}
use Rattle.ic_workbooks.proofs.HandedInLemmas.{read_back}
use Rattle.ic_workbooks.proofs.TakenAgain.{taken_again}
use Rattle.ic_parts.specs.Book.{Book, IsValidBook, ModelState}
use Rattle.ic_parts.specs.Does.{Does, DoesOnly, Made, Never, Refused}
use Rattle.ic_parts.specs.Fields.{no_fields, string_only}
use Rattle.ic_parts.specs.Refused.{refusal_of}
use Rattle.ic_parts.specs.Whole.{whole_of}
use Rattle.ic_parts.specs.declared.error.BookError.{BookError}
use Rattle.ic_parts.specs.declared.error.BookError.TheVariants as book
use Rattle.ic_import.proofs.TypingLemmas.{IsBlock, TypesLike, memory_alone, types_like}
use Rattle.ic_import.specs.Import.{BlocksRightly, IsBlocking, IsMet, IsOfBytes, IsOfReading, IsOfRequest, IsOfTyping, NoText, Outside, Outcome, Refused as RefusedField, RefusesRequest, Request, RestsOnBytes, Tells, TellsTyping, TellsWrong, Leaves, in_notation, outcome_of, request_causes, request_refusal, typed_outcome, typing_outcome}
use Rattle.ic_import.specs.Placed.{first_outside, number_of}
use Rattle.ic_import.specs.Records.{Field, all_fields, first_no_text}
use Rattle.ic_import.specs.Typed.{Blocked, TellsBlocked, Typable, typed}
use Rattle.ic_import.specs.declared.error.ImportError.{ImportError}
use Rattle.ic_import.specs.declared.error.ImportError.TheVariants as errors
use Rattle.ic_import.specs.declared.places.FieldNumber.{FieldNumber}
use Rattle.ic_tables.proofs.LiteralLemmas.{comma as comma_chars}

-- The request. ----

is_there : {A : Type 0} (o : Option A) → is_none o ≡ false → IsSome o
is_there (Some x) e = refl
is_there None e = cc

is_lacking : {A : Type 0} (o : Option A) → o ≡ None → is_none o ≡ true
is_lacking (Some x) e = cc
is_lacking None e = refl

-- nothing refuses a request only where it is met
pub request_met : (request : Request) (b : machine.Book) → request_refusal request b ≡ None → IsMet request b
request_met request b e =
    let none = none_holds (request_causes request b) e in
    record {
      sheet = none.0;
      row = not-false (is_row request.at.0) none.1.0;
      column = not-false (is_column request.at.1) none.1.1.0;
      locale = is_there (locale_of b.tables request.locale) none.1.1.1.0;
      language = is_there (language_of b.tables request.language) none.1.1.1.1.0;
    }

-- what is told by the tests in their order
abbrev told_by : Bool → Bool → Bool → Bool → Bool → Option Refusal
told_by lacks row column locale language =
    first_refusal ((lacks, InvalidSheet) ∷ (not row, InvalidRow) ∷ (not column, InvalidColumn) ∷ (locale, OfCore refusals.InvalidLocale) ∷ (language, OfCore refusals.InvalidLanguage) ∷ [])

by_sheet : (lacks row column locale language : Bool) → lacks ≡ true → told_by lacks row column locale language ≡ Some InvalidSheet
by_sheet true row column locale language a = refl
by_sheet false row column locale language a = cc

by_row : (lacks row column locale language : Bool) → lacks ≡ false → row ≡ false → told_by lacks row column locale language ≡ Some InvalidRow
by_row false false column locale language a b = refl
by_row false true column locale language a b = cc
by_row true row column locale language a b = cc

by_column : (lacks row column locale language : Bool) → lacks ≡ false → row ≡ true → column ≡ false → told_by lacks row column locale language ≡ Some InvalidColumn
by_column false true false locale language a b c = refl
by_column false true true locale language a b c = cc
by_column false false column locale language a b c = cc
by_column true row column locale language a b c = cc

by_locale : (lacks row column locale language : Bool) → lacks ≡ false → row ≡ true → column ≡ true → locale ≡ true → told_by lacks row column locale language ≡ Some (OfCore refusals.InvalidLocale)
by_locale false true true true language a b c d = refl
by_locale false true true false language a b c d = cc
by_locale false true false locale language a b c d = cc
by_locale false false column locale language a b c d = cc
by_locale true row column locale language a b c d = cc

by_language : (lacks row column locale language : Bool) → lacks ≡ false → row ≡ true → column ≡ true → locale ≡ false → told_by lacks row column locale language ≡ (let o : Option Refusal = cond language (Some (OfCore refusals.InvalidLanguage)) None in o)
by_language false true true false language a b c d = refl
by_language false true true true language a b c d = cc
by_language false true false locale language a b c d = cc
by_language false false column locale language a b c d = cc
by_language true row column locale language a b c d = cc

module _ (request : Request) (b : machine.Book) where
  abbrev lacks : Bool
  lacks = lacks_sheet b request.sheet

  abbrev no_locale : Bool
  no_locale = is_none (locale_of b.tables request.locale)

  abbrev no_language : Bool
  no_language = is_none (language_of b.tables request.language)

  pub sheet_refused : lacks ≡ true → request_refusal request b ≡ Some InvalidSheet
  sheet_refused = by_sheet lacks (is_row request.at.0) (is_column request.at.1) no_locale no_language

  pub row_refused : lacks ≡ false → is_row request.at.0 ≡ false → request_refusal request b ≡ Some InvalidRow
  row_refused = by_row lacks (is_row request.at.0) (is_column request.at.1) no_locale no_language

  pub column_refused : lacks ≡ false → is_row request.at.0 ≡ true → is_column request.at.1 ≡ false → request_refusal request b ≡ Some InvalidColumn
  column_refused = by_column lacks (is_row request.at.0) (is_column request.at.1) no_locale no_language

  pub locale_refused : lacks ≡ false → is_row request.at.0 ≡ true → is_column request.at.1 ≡ true → locale_of b.tables request.locale ≡ None → request_refusal request b ≡ Some (OfCore refusals.InvalidLocale)
  locale_refused l r c e = by_locale lacks (is_row request.at.0) (is_column request.at.1) no_locale no_language l r c (is_lacking (locale_of b.tables request.locale) e)

  pub language_refused : lacks ≡ false → is_row request.at.0 ≡ true → is_column request.at.1 ≡ true → is_none (locale_of b.tables request.locale) ≡ false → language_of b.tables request.language ≡ None
      → request_refusal request b ≡ Some (OfCore refusals.InvalidLanguage)
  language_refused l r c found e =
      by_language lacks (is_row request.at.0) (is_column request.at.1) no_locale no_language l r c found
      ∙ ap (λ t. let o : Option Refusal = cond t (Some (OfCore refusals.InvalidLanguage)) None in o) (is_lacking (language_of b.tables request.language) e)

  pub nothing_refused : lacks ≡ false → is_row request.at.0 ≡ true → is_column request.at.1 ≡ true → is_none (locale_of b.tables request.locale) ≡ false → is_none (language_of b.tables request.language) ≡ false
      → request_refusal request b ≡ None
  nothing_refused l r c found spoken =
      by_language lacks (is_row request.at.0) (is_column request.at.1) no_locale no_language l r c found
      ∙ ap (λ t. let o : Option Refusal = cond t (Some (OfCore refusals.InvalidLanguage)) None in o) spoken

found_refused : (o : Option Sheet) (step : Sheet → Stepped machine.Book) (why : Refusal) → found_or InvalidSheet (option_map step o) ≡ Err why → ((s : Sheet) → step s ≡ Err why → ⊥) → (o ≡ None) × (InvalidSheet ≡ why)
found_refused None step why e never = (refl, cc)
found_refused (Some s) step why e never = absurd (never s e)

found_done : (o : Option Sheet) (step : Sheet → Stepped machine.Book) (done : machine.Book × List Told) → found_or InvalidSheet (option_map step o) ≡ Ok done → (s : Sheet) × (o ≡ Some s)
found_done None step done e = cc
found_done (Some s) step done e = (s, refl)

-- a look at a cell is refused exactly where there is no such sheet
module _ {T : Type 0} (fields : T → List Told) (now : ModelState) (sheet : ℕ) (row column : ℤ) where
  abbrev IsSheetLacked : BookError → Type 0
  IsSheetLacked e = (refusal_of e ≡ Some InvalidSheet) × (lacks_sheet (whole_of now.book) sheet ≡ true)

  pub sheet_lacked : (e : BookError) → DoesOnly reading_step (IsEmptyCell sheet row column) fields (Err e) now now → IsSheetLacked e
  unfolding empty_step
  sheet_lacked e h = by_refusal (refusal_of e) refl h.done
    where
      by_refusal : (o : Option Refusal) → refusal_of e ≡ o → Refused Never (reading_step (whole_of now.book) (IsEmptyCell sheet row column)) now now o → IsSheetLacked e
      by_refusal None is told = absurd told
      by_refusal (Some why) is told =
          let found = found_refused (slice_get (whole_of now.book).sheets sheet) _ why told.0 (λ s e. cc) in
          (is ∙ ap (λ r. Some r) (sym found.1), ap not (none_past (whole_of now.book).sheets sheet found.0))

  pub sheet_stands : (value : T) → DoesOnly reading_step (IsEmptyCell sheet row column) fields (Ok value) now now → lacks_sheet (whole_of now.book) sheet ≡ false
  unfolding empty_step
  sheet_stands value h =
      let found = found_done (slice_get (whole_of now.book).sheets sheet) _ (whole_of now.book, fields value) h.done in
      ap not (some_within (whole_of now.book).sheets sheet found.0 found.1)

-- what parts lists in a locale, and in the one that was found
pub separator_told : (l : Locale) (is_comma : Bool) → has_separators l ≡ true → is_comma ≡ bytes_eq l.numbers.symbols.decimal (chars (codes ",")) → list_of is_comma ≡ list_separator l
separator_told l is_comma good e = ap list_of (e ∙ ap (bytes_eq l.numbers.symbols.decimal) comma_chars) ∙ (separators_told l good).0

pub locale_found : (tables : TableSet) (id : List ℕ) (l : Locale) → option_map (λ n. n.locale) (locale_of tables id) ≡ Some l → is_none (locale_of tables id) ≡ false
locale_found tables id l e = by_found (locale_of tables id) e
  where
    by_found : (o : Option NamedLocale) → option_map (λ n. n.locale) o ≡ Some l → is_none o ≡ false
    by_found None e = cc
    by_found (Some n) e = refl

pub not_none : {A : Type 0} (o : Option A) (x : A) → o ≡ Some x → is_none o ≡ false
not_none o x e = ap is_none e

-- The notation. ----

-- a locale and a language that are known are put in force
locale_taken : (b : machine.Book) (id : List ℕ) → IsSome (locale_of b.tables id) → set_locale_step id b ≡ Ok (record b { locale = id }, [])
unfolding core_step set_locale_step
locale_taken b id known =
    ap (λ t. let made : Stepped machine.Book = as_core (core.unless_refused (refusals.first_refusal ((not t, refusals.InvalidLocale) ∷ [])) (record (core_of b) { locale = id }) []) (record b { locale = id }) in made)
    (knows_locale_is b.tables id ∙ known)

language_taken : (b : machine.Book) (id : List ℕ) → IsSome (language_of b.tables id) → set_language_step id b ≡ Ok (record b { language = id }, [])
unfolding core_step set_language_step
language_taken b id known =
    ap (λ t. let made : Stepped machine.Book = as_core (core.unless_refused (refusals.first_refusal ((not t, refusals.InvalidLanguage) ∷ [])) (record (core_of b) { language = id }) []) (record b { language = id }) in made)
    (knows_language_is b.tables id ∙ known)

module _ (made : Stepped machine.Book) (left : machine.Book) (old new : ModelState) (is : made ≡ Ok (left, [])) where
  -- a step that is taken without memory is done, and leaves what it leaves
  done_so : (r : Result (Unit {0}) BookError) → Made Never made no_fields old new r → (is_err r ≡ false) × (whole_of new.book ≡ left)
  done_so (Ok value) done =
      let same : ◌≡◌ {A = Stepped machine.Book} (Ok (whole_of new.book, [])) (Ok (left, [])) = sym done ∙ is in
      let pair : ◌≡◌ {A = machine.Book × List Told} (whole_of new.book, []) (left, []) = cc in
      (refl, ap (λ (p : machine.Book × List Told). p.0) pair)
  done_so (Err e) done = by_refusal (refusal_of e) done
    where
      by_refusal : (o : Option Refusal) → Refused Never made old new o → (is_err {T = Unit {0}} (Err e) ≡ false) × (whole_of new.book ≡ left)
      by_refusal None told = absurd told
      by_refusal (Some why) told = let no : ◌≡◌ {A = Stepped machine.Book} (Err why) (Ok (left, [])) = sym told.0 ∙ is in cc

module _ (old new : ModelState) (id : List ℕ) (r : Result (Unit {0}) BookError) where
  pub locale_put : IsSome (locale_of old.book.tables id) → DoesOnly notation_step (SetLocale id) no_fields r old new → (is_err r ≡ false) × (whole_of new.book ≡ in_notation id old.book.language (whole_of old.book))
  locale_put known does = done_so (set_locale_step id (whole_of old.book)) (record (whole_of old.book) { locale = id }) old new (locale_taken (whole_of old.book) id known) r does.done

  pub language_put : IsSome (language_of old.book.tables id) → DoesOnly notation_step (SetLanguage id) no_fields r old new → (is_err r ≡ false) × (whole_of new.book ≡ in_notation old.book.locale id (whole_of old.book))
  language_put known does = done_so (set_language_step id (whole_of old.book)) (record (whole_of old.book) { language = id }) old new (language_taken (whole_of old.book) id known) r does.done

-- the notation in force is known
pub own_locale_known : (b : Book) → IsValidBook b → IsSome (locale_of b.tables b.locale)
own_locale_known b valid = sym (knows_locale_is b.tables b.locale) ∙ valid.whole.locale

pub own_language_known : (b : Book) → IsValidBook b → IsSome (language_of b.tables b.language)
own_language_known b valid = sym (knows_language_is b.tables b.language) ∙ valid.whole.language

told_text : (a b : List ℕ) (x y : machine.Book) → ◌≡◌ {A = Stepped machine.Book} (Ok (x, text_field a)) (Ok (y, text_field b)) → b ≡ a
told_text a b x y e =
    let pair : ◌≡◌ {A = machine.Book × List Told} (x, text_field a) (y, text_field b) = cc in
    let fields : text_field a ≡ text_field b = ap (λ (p : machine.Book × List Told). p.1) pair in
    cc

pub locale_told : (now : ModelState) (text : String Global) → Does notation_step GetLocale string_only (Ok text) now now → chars (string_bytes text) ≡ now.book.locale
unfolding get_locale_step
locale_told now text does = told_text now.book.locale (chars (string_bytes text)) (whole_of now.book) (whole_of now.book) does.done

pub language_told : (now : ModelState) (text : String Global) → Does notation_step GetLanguage string_only (Ok text) now now → chars (string_bytes text) ≡ now.book.language
unfolding get_language_step
language_told now text does = told_text now.book.language (chars (string_bytes text)) (whole_of now.book) (whole_of now.book) does.done

-- The copy. ----

module _ (b : Book) (valid : IsValidBook b) (w : Workbook) (language : List ℕ) (tables : TableSet) (same : w ≡ workbook_of b) (spoken : language ≡ b.language) (borrowed : tables ≡ b.tables) where
  -- the records of a book stand for it, and where they are handed in only memory can be missing
  pub copy_is : book_of w language tables ≡ whole_of b
  copy_is = rw (same, spoken, borrowed) (read_back b valid)

  pub copy_refused : (e : BookError) → TellsHandedIn w language tables e → e ≡ book.OutOfMemory
  copy_refused e told = taken_again b valid e (rw (same, spoken, borrowed) at told)

-- What typing tells. ----

-- an error that tells a field which merged cells or an array keep from being typed
blocking : (why : BookError) (told : Refusal) → refusal_of why ≡ Some told → IsBlock told → IsBlocking why
blocking book.MergedPart told e h = tt
blocking book.ArrayPart told e h = tt
blocking why told e (inl h) = cc
blocking why told e (inr h) = cc

module _ (request : Request) (b : machine.Book) (records : List (List (List ℕ))) where
  abbrev its_fields : List Field
  its_fields = all_fields records

  abbrev its_typing : Result machine.Book Blocked
  its_typing = typed request.sheet request.at its_fields (in_notation request.locale request.language b)

  pub typed_told : (counts : ℕ × ℕ) (mid left : machine.Book) → its_typing ≡ Ok mid → left ≡ in_notation b.locale b.language mid → counts ≡ (length records, length its_fields) → TellsTyping request b records (Ok counts) left
  typed_told counts mid left is becomes counted = record {
    told = (ap (typed_outcome b) is ∙ ap (λ (c : machine.Book). Leaves c) (sym becomes), counted);
    which = tt;
    blocked = tt;
  }

  pub memory_typed : (left : machine.Book) → TellsTyping request b records (Err errors.OutOfMemory) left
  memory_typed left = record { told = tt; which = tt; blocked = tt }

  pub blocked_told : (left : machine.Book) (e : ImportError) → lacks_sheet b request.sheet ≡ false → Typable request.at its_fields → TellsBlocked its_typing e → TellsTyping request b records (Err e) left
  blocked_told left e there typable told = by_result its_typing refl (types_like request.sheet request.at its_fields (in_notation request.locale request.language b) there typable) told
    where
      by_error : (stop : Blocked) (f : ImportError) → its_typing ≡ Err stop → IsBlock stop.why → TellsBlocked (Err stop) f → TellsTyping request b records (Err f) left
      by_error stop errors.OutOfMemory is block told = memory_typed left
      by_error stop (errors.Blocked at_record at_field why) is block told = record {
        told = (
          stop.why,
          told.2,
          ap (typed_outcome b) is ∙ ap (λ n. RefusedField n stop.field.at_field stop.why) (sym told.0) ∙ ap (λ n. RefusedField at_record n stop.why) (sym told.1),
        );
        which = tt;
        blocked = blocking why stop.why told.2 block;
      }
      by_error stop f is block told = absurd told

      by_result : (r : Result machine.Book Blocked) → its_typing ≡ r → TypesLike (in_notation request.locale request.language b) r → TellsBlocked r e → TellsTyping request b records (Err e) left
      by_result (Ok mid) is like told = subst (λ (f : ImportError). TellsTyping request b records (Err f) left) (sym (memory_alone mid e told)) (memory_typed left)
      by_result (Err stop) is like told = by_error stop e is like told

  -- where all fields are typed, the tables are the book's
  pub tables_typed : (mid : machine.Book) → lacks_sheet b request.sheet ≡ false → Typable request.at its_fields → its_typing ≡ Ok mid → mid.tables ≡ b.tables
  tables_typed mid there typable is = subst (TypesLike (in_notation request.locale request.language b)) is (types_like request.sheet request.at its_fields (in_notation request.locale request.language b) there typable)

-- What all bytes come to. ----

module _ (request : Request) (b : machine.Book) (fields : List Field) (count total : ℕ) (left : machine.Book) where
  no_text_first : (o : Option Field) (other : Outcome) (n : FieldNumber) → option_map number_of o ≡ Some n → option_map_or (λ (f : Field). NoText f.at_record f.at_field) o other ≡ NoText n.at_record n.at_field
  no_text_first None other n e = cc
  no_text_first (Some f) other n e = let same : number_of f ≡ n = cc in ap (λ (k : FieldNumber). NoText k.at_record k.at_field) same

  outside_first : (o : Option Field) (other : Outcome) (n : FieldNumber) → option_map number_of o ≡ Some n → option_map_or (λ (f : Field). Outside f.at_record f.at_field) o other ≡ Outside n.at_record n.at_field
  outside_first None other n e = cc
  outside_first (Some f) other n e = let same : number_of f ≡ n = cc in ap (λ (k : FieldNumber). Outside k.at_record k.at_field) same

  abbrev others : Outcome
  others = option_map_or (λ (f : Field). Outside f.at_record f.at_field) (first_outside request.at fields) (typing_outcome request b fields)

  past_text : first_no_text fields ≡ None → outcome_of request b fields ≡ others
  past_text none = ap (λ (o : Option Field). option_map_or (λ (f : Field). NoText f.at_record f.at_field) o others) none

  -- what a look at all fields finds wrong
  pub wrong_told : (e : ImportError) → TellsWrong request.at fields e → Tells (outcome_of request b fields) count total (Err e) left
  wrong_told (errors.NotUtf8 at_record at_field) h = no_text_first (first_no_text fields) others (record { at_record = at_record; at_field = at_field }) h
  wrong_told (errors.OutsideSheet at_record at_field) h =
      past_text h.0 ∙ outside_first (first_outside request.at fields) (typing_outcome request b fields) (record { at_record = at_record; at_field = at_field }) h.1
  wrong_told errors.OutOfMemory h = tt
  wrong_told e h = absurd h

  -- where nothing is wrong, it is what typing comes to
  pub typable_outcome : Typable request.at fields → typing_outcome request b fields ≡ outcome_of request b fields
  typable_outcome h = sym (past_text h.text ∙ ap (λ (o : Option Field). option_map_or (λ (f : Field). Outside f.at_record f.at_field) o (typing_outcome request b fields)) h.inside)

-- an error of a look at all fields, and one of typing, is one of bytes
pub wrong_of_bytes : (at : CellPlace) (fields : List Field) (e : ImportError) → TellsWrong at fields e → IsOfBytes e × BlocksRightly e
wrong_of_bytes at fields (errors.NotUtf8 r f) h = (tt, tt)
wrong_of_bytes at fields (errors.OutsideSheet r f) h = (tt, tt)
wrong_of_bytes at fields errors.OutOfMemory h = (tt, tt)
wrong_of_bytes at fields e h = absurd h

pub typing_of_bytes : {T : Type 0} (r : Result T ImportError) → IsOfTyping r → IfErr r IsOfBytes
typing_of_bytes (Ok value) h = tt
typing_of_bytes (Err errors.OutOfMemory) h = tt
typing_of_bytes (Err (errors.Blocked at_record at_field why)) h = tt
typing_of_bytes (Err e) h = absurd h

-- What each kind of error isn't. ----

pub reading_kind : (T : Type 0) (e : ImportError) (refusal : Option Refusal) → IsOfReading e → refusal ≡ None → (RestsOnBytes {T = T} (Err e) → ⊥) × (IsOfRequest e → ⊥) × BlocksRightly e × RefusesRequest {T = T} refusal (Err e)
reading_kind T errors.ReadFault refusal h none = (λ x. x, λ x. x, tt, none)
reading_kind T errors.TooManyTurns refusal h none = (λ x. x, λ x. x, tt, none)
reading_kind T errors.OutOfMemory refusal h none = (λ x. x, λ x. x, tt, none)
reading_kind T e refusal h none = absurd h

pub bytes_kind : {T : Type 0} (r : Result T ImportError) (refusal : Option Refusal) → IfErr r IsOfBytes → refusal ≡ None
    → (r ≡ Err errors.ReadFault → ⊥) × (r ≡ Err errors.TooManyTurns → ⊥) × IfErr r (λ e. IsOfRequest e → ⊥) × RefusesRequest refusal r
bytes_kind (Ok value) refusal h none = (λ e. cc, λ e. cc, tt, none)
bytes_kind (Err (errors.Book e)) refusal h none = absurd h
bytes_kind (Err errors.ReadFault) refusal h none = absurd h
bytes_kind (Err errors.TooManyTurns) refusal h none = absurd h
bytes_kind (Err e) refusal h none = (λ is. cc, λ is. cc, λ x. x, none)
