-- The languages of users, as they are held and as they are meant.
use Rattle.std.proofs.Common.{◌≡◌, ℕ, List, [], ◌∷◌, true, false, Option, Some, None, Ok, Err, String, string_bytes, refl, sym, ap, subst, ◌∙◌}
use Rattle.std.specs.declared.alloc.Global.{Global}
use Rattle.std.specs.Str.{IsUtf8, chars}
use Rattle.std.specs.Prelude.{IfOk, MatchResult, OnErr}
use Rattle.std.proofs.lemmas.Str.{encodes-chars}
use Rattle.ic_machine.specs.Command.{command_in, commands}
use Rattle.ic_machine.specs.Refusal.{BadLine}
use Rattle.ic_machine.specs.Reply.{Reply, reply_bytes}
use Rattle.ic_machine.specs.Step.{command_step, english_errors, line_step}
use Rattle.ic_commands.specs.Answered.{DoesLine}
use Rattle.std.specs.Prelude.{◌≢◌, length, nat_eq, Result, encode_utf8_all}
use Rattle.ic_laws.specs.CoreStep.{core_step}
use Rattle.ic_laws.specs.Lines.{unescaped}
use Rattle.std.specs.FinMap as finite
use Rattle.std.specs.Cmp.Lexicographic.{slice_cmp}
use Rattle.std.specs.Ordering.{nat_cmp}
use Rattle.ic_parts.specs.Book.{Book as Held, IsValidBook, ModelState}
use Rattle.ic_parts.specs.Does.{Made, Never, Refused}
use Rattle.ic_parts.specs.Fields.{no_fields}
use Rattle.ic_parts.specs.Refused.{refusal_of}
use Rattle.ic_parts.specs.Whole.{whole_of}
use Rattle.ic_parts.specs.declared.error.BookError.{BookError}
use Rattle.ic_machine.specs.Book.{Book, Stepped, notations_in}
use Rattle.ic_machine.specs.Refusal.{Refusal}
use Rattle.ic_share.specs.Share.{IsKnown, languages_held, shared_by}
use Rattle.ic_share.specs.Shared.{in_language}
use Rattle.ic_share.specs.Users.{user_of}
use Rattle.ic_machine.specs.Reply.{Field, TextField, text_field}
use Rattle.ic_machine.specs.subjects.Notation.{get_language_step, set_language_step}
use Rattle.ic_pool.proofs.PlaceLemmas.{no_items as empty_list}

-- the language that a book tells is the one in force
abbrev field_text_of : List Field → List ℕ
field_text_of (TextField text ∷ fields) = text
field_text_of fields = []

abbrev fields_of : Stepped Book → List Field
fields_of (Ok done) = done.1
fields_of (Err refusal) = []

pub told_language : (book : Book) (text : List ℕ) → get_language_step book ≡ Ok (book, text_field text) → text ≡ book.language
unfolding get_language_step
told_language book text e = ap (λ made. field_text_of (fields_of made)) (sym e)

-- the empty word spells no user, and each other word the text that it spells
pub no_user : (bytes : List ℕ) → nat_eq (length bytes) 0 ≡ true → None ≡ user_of (chars bytes)
unfolding chars
no_user bytes e = ap (λ b. user_of (chars b)) (sym (empty_list bytes e))

spelled : (text : List ℕ) → text ≢ [] → user_of text ≡ unescaped text
spelled [] some = absurd (some refl)
spelled (c ∷ cs) some = refl

some_chars : (bytes : List ℕ) → IsUtf8 bytes → nat_eq (length bytes) 0 ≡ false → chars bytes ≢ []
some_chars bytes u some none = let is : bytes ≡ [] = sym (encodes-chars bytes u) ∙ ap encode_utf8_all none in absurd (let e : nat_eq (length bytes) 0 ≡ true = ap (λ (b : List ℕ). nat_eq (length b) 0) is in cc)

pub spelled_user : {E : Type 0} (bytes : List ℕ) (result : Result (Option (List ℕ)) E) (Q : E → Type 0) → IsUtf8 bytes → nat_eq (length bytes) 0 ≡ false → MatchResult result (λ text. text ≡ unescaped (chars bytes)) Q
    → IfOk result (λ user. user ≡ user_of (chars bytes))
spelled_user bytes (Ok user) Q u some h = h ∙ sym (spelled (chars bytes) (some_chars bytes u some))
spelled_user bytes (Err e) Q u some h = tt

-- a language of the tables is put in force
step_known : (book : Book) (id : List ℕ) → (notations_in book).knows_language id ≡ true → set_language_step id book ≡ Ok (in_language id book, [])
unfolding set_language_step core_step
step_known book id e = rw e refl

abbrev left_book : Book → Stepped Book → Book
left_book book (Ok done) = done.0
left_book book (Err refusal) = book

abbrev IsOkStep : Stepped Book → Type 0
IsOkStep (Ok done) = Unit {0}
IsOkStep (Err refusal) = ⊥

pub language_put : (id : List ℕ) (old new : ModelState) (result : Result Unit BookError) → (notations_in (whole_of old.book)).knows_language id ≡ true → Made Never (set_language_step id (whole_of old.book)) no_fields old new result
    → whole_of new.book ≡ in_language id (whole_of old.book)
language_put id old new (Ok value) known h = ap (left_book (whole_of old.book)) (sym h ∙ step_known (whole_of old.book) id known)
language_put id old new (Err e) known h = absurd (refused (refusal_of e) h)
  where
    refused : (o : Option Refusal) → Refused Never (set_language_step id (whole_of old.book)) old new o → ⊥
    refused None h = h
    refused (Some refusal) h = subst IsOkStep (sym (step_known (whole_of old.book) id known) ∙ h.0) tt

-- the empty line is no command
no_line : chars [] ≡ []
unfolding chars
no_line = refl

empty_none : (english : List (List ℕ)) → command_in english commands [] ≡ None
unfolding commands
empty_none english = refl

pub empty_bad : (book : Book) (line : List ℕ) → line ≡ chars [] → line_step commands book line ≡ (book, Err BadLine)
empty_bad book line e = ap (λ l. line_step commands book l) (e ∙ no_line) ∙ ap (command_step book) (empty_none (english_errors book))

pub empty_told : {E : Type 0} (line : List ℕ) (old new : ModelState) (result : Result (String Global) E) → line ≡ chars [] → IfOk result (λ reply. DoesLine line old new (string_bytes reply)) → IfOk result (λ reply. string_bytes reply ≡ reply_bytes (Err BadLine))
empty_told line old new (Ok reply) e h = h.reply ∙ ap (λ (d : Book × Reply). reply_bytes d.1) (empty_bad (whole_of old.book) line e)
empty_told line old new (Err e) is h = tt

pub empty_left : {E : Type 0} (line : List ℕ) (old new : ModelState) (result : Result (String Global) E) → line ≡ chars [] → IfOk result (λ reply. DoesLine line old new (string_bytes reply)) → OnErr result (new.book ≡ old.book) → whole_of new.book ≡ whole_of old.book
empty_left line old new (Ok reply) e h k = h.book ∙ ap (λ (d : Book × Reply). d.0) (empty_bad (whole_of old.book) line e)
empty_left line old new (Err e) is h k = ap whole_of k

-- where no user chose a language, all languages are known
pub known_at_start : (book : Held) (own : List ℕ) (entries : List (String Global × String Global)) → entries ≡ [] → IsValidBook book → IsKnown (shared_by (record { own = own; languages = languages_held entries }) book)
known_at_start book own entries none valid = record {
  own = valid.whole.language;
  chosen = λ user language e.
      absurd (let same : finite.get (languages_held entries) user ≡ None = ap (λ (es : List (String Global × String Global)). finite.get (languages_held es) user) none ∙ finite.get-empty (slice_cmp nat_cmp) user in cc);
}
