-- What a call does that puts or tells one of a book's settings, or tells of its sheets.
use Rattle.std.proofs.Common.{◌≡◌, ◌++◌, ℕ, List, [], ◌∷◌, Bool, true, false, Result, Ok, Err, IsErr, IsErrAnd, map, refl, ap, sym, subst, ◌∙◌, not}
use Rattle.std.specs.Prelude.{flat_map}
use Rattle.ic_tables.specs.Tables.{lists_zone}
use Rattle.ic_machine.specs.Book as machine
use Rattle.ic_machine.specs.Book.{Stepped, unless, unless_refused}
use Rattle.ic_machine.proofs.valid.SubjectsStay.{notation_stays, tabs_are}
use Rattle.ic_machine.specs.Kept.{StaysValid}
use Rattle.ic_machine.specs.Refusal.{InvalidTimezone, first_refusal}
use Rattle.ic_machine.specs.Reply.{Field}
use Rattle.ic_machine.specs.subjects.Notation.{SetTimezone, set_timezone_step}
use Rattle.ic_machine.specs.subjects.Sheets.{property_fields}
use Rattle.ic_machine.specs.subjects.Tabs.{SetTheme, set_theme_step}
use Rattle.ic_sheets.specs.Sheet.{sheet_of}
use Rattle.ic_sheets.specs.declared.sheet.Sheet.{Sheet as HeldSheet}
use Rattle.ic_parts.specs.Book.{Book, IsValidBook, ModelState}
use Rattle.ic_parts.specs.Does.{DoesStep, Never, Refused, Wanted}
use Rattle.ic_parts.specs.Fields.{no_fields, told_sheet}
use Rattle.ic_parts.specs.Refused.{refusal_of}
use Rattle.ic_parts.specs.Whole.{whole_of, whole_sheet}
use Rattle.ic_parts.specs.declared.error.BookError.{BookError}
use Rattle.ic_parts.specs.declared.error.BookError.TheVariants as errors

-- a reader that is never refused
module _ (now : ModelState) (valid : IsValidBook now.book) {T : Type 0} (fields : T → List Field) (told : List Field) where
  abbrev made : Stepped machine.Book
  made = unless_refused [] (whole_of now.book) told

  pub tells : (value : T) → fields value ≡ told → DoesStep Wanted (unless_refused [] (whole_of now.book) told) fields (Ok value) now now
  tells value e = record { done = ap (λ (fs : List Field). let done : Stepped machine.Book = Ok (whole_of now.book, fs) in done) (sym e); before = valid; after = valid }

  pub lacks_memory : (r : Result T BookError) → IsErr r × IsErrAnd r (λ e. e ≡ errors.OutOfMemory) → DoesStep Wanted (unless_refused [] (whole_of now.book) told) fields r now now
  lacks_memory (Ok value) h = let no : false ≡ true = h.0 in cc
  lacks_memory (Err e) h = record { done = subst (Refused Wanted made now now) (sym (ap refusal_of h.1)) (tt, refl); before = valid; after = valid }

-- the zone ----

abbrev pub with_zone : List ℕ → Book → Book
with_zone id book = record book { zone = id }

zone_step : (book : Book) (id : List ℕ) (listed : Bool) → lists_zone book.tables id ≡ listed
    → set_timezone_step id (whole_of book) ≡ unless (first_refusal ((not listed, InvalidTimezone) ∷ [])) (record (whole_of book) { zone = id }) []
unfolding set_timezone_step
zone_step book id listed e = ap (λ b. unless (first_refusal ((not b, InvalidTimezone) ∷ [])) (record (whole_of book) { zone = id }) []) e

pub zone_valid : (book : Book) (id : List ℕ) → IsValidBook book → lists_zone book.tables id ≡ true → IsValidBook (with_zone id book)
zone_valid book id valid listed = record {
  whole = subst StaysValid (zone_step book id true listed) (notation_stays (whole_of book) (SetTimezone id) valid.whole);
  strings = valid.strings;
}

module _ (old : ModelState) (valid : IsValidBook old.book) (id : List ℕ) where
  pub puts_zone : lists_zone old.book.tables id ≡ true → (new : ModelState) → new ≡ record old { book = with_zone id old.book } → DoesStep Never (set_timezone_step id (whole_of old.book)) no_fields (Ok tt) old new
  puts_zone listed new becomes = record {
    done = zone_step old.book id true listed ∙ ap (λ (m : ModelState). let done : Stepped machine.Book = Ok (whole_of m.book, []) in done) (sym becomes);
    before = valid;
    after = subst (λ (m : ModelState). IsValidBook m.book) (sym becomes) (zone_valid old.book id valid listed);
  }

  pub unknown_zone : lists_zone old.book.tables id ≡ false → DoesStep Never (set_timezone_step id (whole_of old.book)) no_fields (Err errors.InvalidTimezone) old old
  unknown_zone none = record { done = (zone_step old.book id false none, refl); before = valid; after = valid }

-- the theme ----

abbrev pub with_theme : List ℕ → Book → Book
with_theme name book = record book { theme = name }

pub theme_valid : (book : Book) (name : List ℕ) → IsValidBook book → IsValidBook (with_theme name book)
unfolding set_theme_step
theme_valid book name valid = record {
  whole = tabs_are (whole_of book) (SetTheme name) valid.whole;
  strings = valid.strings;
}

pub puts_theme : (old : ModelState) → IsValidBook old.book → (name : List ℕ) (new : ModelState) → new ≡ record old { book = with_theme name old.book } → DoesStep Never (set_theme_step name (whole_of old.book)) no_fields (Ok tt) old new
unfolding set_theme_step
puts_theme old valid name new becomes = record {
  done = ap (λ (m : ModelState). let done : Stepped machine.Book = Ok (whole_of m.book, []) in done) (sym becomes);
  before = valid;
  after = subst (λ (m : ModelState). IsValidBook m.book) (sym becomes) (theme_valid old.book name valid);
}

-- what is told of the sheets ----

pub sheets_told : (strings : List (List ℕ)) (ws : List HeldSheet) → flat_map told_sheet ws ≡ flat_map property_fields (map (whole_sheet strings) (map sheet_of ws))
sheets_told strings [] = refl
sheets_told strings (s ∷ ws) = ap (λ rest. told_sheet s ++ rest) (sheets_told strings ws)
