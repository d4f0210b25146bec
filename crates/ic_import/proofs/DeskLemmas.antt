-- What the program asks for and writes.
use Rattle.std.proofs.Common.{String, ◌≡◌, ◌≢◌, ◌≤◌, ◌⊎◌, inl, inr, ◌<◌, ◌++◌, ◌∷◌, [], ℕ, List, Bool, true, false, cond, Option, Some, None, option_map, Result, Ok, Err, slice_get, codes, length, append_assoc, refl, sym, ap, subst, ◌∙◌, arith}
use Rattle.std.proofs.lemmas.Bool.{lt-ltb}
use Rattle.std.proofs.lemmas.Result.{IfOk-weaker}
use Rattle.std.specs.Fmt.{decimal}
use Rattle.std.specs.Option.{option_map_or}
use Rattle.std.specs.Prelude.{IfOk, IsNone, encode_utf8_all, string_bytes, nat_lt, is_none, not}
use Rattle.std.specs.Str.{chars}
use Rattle.std.specs.declared.alloc.Global.{Global}
use Rattle.ic_laws.specs.Character.{line_feed, tab}
use Rattle.ic_lines.proofs.ToldLemmas.{IfTold-weaker}
use Rattle.ic_lines.specs.Bytes.{AppendsFront, IfTold}
use Rattle.ic_machine.specs.Book.{Book, Sheet, Stepped, found_or, unless_refused}
use Rattle.ic_machine.specs.Refusal.{InvalidSheet, Refusal}
use Rattle.ic_machine.specs.Reply.{Field as ReplyField, TextField, text_field}
use Rattle.ic_machine.specs.subjects.Reading.{markup_step, sheet_markup}
use Rattle.ic_run.specs.Core.{IsPlainBook}
use Rattle.ic_run.specs.Desk.{texts}
use Rattle.ic_run.specs.Translate.{Target, target_refusal}
use Rattle.ic_tables.specs.Tables.{language_of, locale_of}
use Rattle.ic_import.specs.Desk.{NeverRefuses, Says, SaysOf, Writes, WritesPart, request_of, first_markup, refused_line, status_of, target_of}
use Rattle.ic_import.specs.Import.{Leaves, NoText, Outcome, Outside, Refused, RefusesRequest, RestsOn, RestsOnBytes, Tells, TellsImport, in_notation, request_refusal, outcome, outcome_of, typed_outcome}
use Rattle.ic_import.specs.Placed.{first_outside}
use Rattle.ic_import.specs.Records.{Field, first_no_text}
use Rattle.ic_import.specs.Typed.{Blocked, typed}
use Rattle.ic_parts.specs.declared.error.BookError.{BookError}
use Rattle.ic_import.specs.declared.error.ImportError.{ImportError}
use Rattle.ic_import.specs.declared.error.ImportError.TheVariants as errors
use Rattle.ic_import.proofs.PlainTyping.{all_typed}

-- The words. ----

en_chars : chars (codes "en") ≡ codes "en"
unfolding chars
en_chars = refl

-- no words
pub no_words : (words : List (String Global)) → words ≡ [] → Some (record { locale = chars (codes "en"); language = chars (codes "en") }) ≡ target_of (texts words)
no_words words e = ap (λ (n : List ℕ). let given : Target = record { locale = n; language = n } in Some given) en_chars ∙ ap (λ ws. target_of (texts ws)) (sym e)

-- An answer says what the outcome does. ----

pub says_outcome : (o : Outcome) (records fields : ℕ) (r : Result (ℕ × ℕ) ImportError) (left : Book) (status : ℕ) (text : List ℕ) → Tells o records fields r left → SaysOf r left status text → Says o status text
says_outcome o records fields (Ok counts) left status text t s = subst (λ (x : Outcome). Says x status text) (sym t.0) s
says_outcome o records fields (Err (errors.NotUtf8 i j)) left status text t s = subst (λ (x : Outcome). Says x status text) (sym t) s
says_outcome o records fields (Err (errors.OutsideSheet i j)) left status text t s = subst (λ (x : Outcome). Says x status text) (sym t) s
says_outcome o records fields (Err (errors.Blocked i j why)) left status text t s = absurd s
says_outcome o records fields (Err (errors.Book e)) left status text t s = absurd s
says_outcome o records fields (Err errors.ReadFault) left status text t s = absurd s
says_outcome o records fields (Err errors.TooManyTurns) left status text t s = absurd s
says_outcome o records fields (Err errors.OutOfMemory) left status text t s = absurd s

-- what says something rests on all bytes
pub says_rests : {T : Type 0} (r : Result T ImportError) (left : Book) (status : ℕ) (text : List ℕ) → SaysOf r left status text → RestsOnBytes r
says_rests (Ok counts) left status text s = tt
says_rests (Err (errors.NotUtf8 i j)) left status text s = tt
says_rests (Err (errors.OutsideSheet i j)) left status text s = tt
says_rests (Err (errors.Blocked i j why)) left status text s = absurd s
says_rests (Err (errors.Book e)) left status text s = absurd s
says_rests (Err errors.ReadFault) left status text s = absurd s
says_rests (Err errors.TooManyTurns) left status text s = absurd s
says_rests (Err errors.OutOfMemory) left status text s = absurd s

module _ (t : Target) (book left : Book) (r : Result (ℕ × ℕ) ImportError) (before now : Option (List ℕ)) (rests : RestsOn (request_of t) book left r before now) (text : List ℕ) where
  told_of : (status : ℕ) (bytes : List ℕ) → rests.bytes ≡ bytes → SaysOf r left status text → Says (outcome (request_of t) book bytes) status text
  told_of status bytes e s =
      let tells : TellsImport (request_of t) book bytes r left = subst (λ (bs : List ℕ). TellsImport (request_of t) book bs r left) e rests.tells in
      says_outcome (outcome (request_of t) book bytes) _ _ r left status text tells s

  pub writes : (status : ℕ) (old new : Option (List ℕ)) → SaysOf r left status text → IfTold old new (λ a b. b ≡ a ++ encode_utf8_all text) → IfTold before now (Writes t book status old new)
  writes status old new s w = IfTold-weaker before now (λ all rest. (rests.bytes ≡ all) × (rest ≡ [])) (Writes t book status old new) (λ all rest is. record { text = text; says = told_of status all is.0 s; written = w }) rests.taken

  pub writes_part : (old new : Option (List ℕ)) → SaysOf r left (status_of r) text → IfTold old new (AppendsFront (encode_utf8_all text)) → IfTold before now (WritesPart t book old new)
  writes_part old new s w = IfTold-weaker before now (λ all rest. (rests.bytes ≡ all) × (rest ≡ [])) (WritesPart t book old new) (λ all rest is. record { status = status_of r; text = text; says = told_of (status_of r) all is.0 s; written = w }) rests.taken

-- No field is refused in a book without merged cells and arrays of several cells. ----

module _ (t : Target) (book : Book) (plain : IsPlainBook book) (some : 0 < length book.sheets) (i j : ℕ) (why : Refusal) where
  not_typed : (r : Result Book Blocked) → (left : Book) × (r ≡ Ok left) → typed_outcome book r ≡ Refused i j why → ⊥
  not_typed r (left, is) e = let no : Leaves (in_notation book.locale book.language left) ≡ Refused i j why = ap (typed_outcome book) (sym is) ∙ e in cc

  not_refused : (fields : List Field) → outcome_of (request_of t) book fields ≡ Refused i j why → ⊥
  not_refused fields e = at_text (first_no_text fields) (first_outside (request_of t).at fields) refl e
    where
      all : first_outside (request_of t).at fields ≡ None → (left : Book) × (typed 0 (request_of t).at fields (in_notation t.locale t.language book) ≡ Ok left)
      all none = all_typed (request_of t).at fields (in_notation t.locale t.language book) plain some none

      typing : Outcome
      typing = typed_outcome book (typed 0 (request_of t).at fields (in_notation t.locale t.language book))

      at_text : (text outside : Option Field) → first_outside (request_of t).at fields ≡ outside
          → option_map_or (λ (f : Field). NoText f.at_record f.at_field) text (option_map_or (λ (f : Field). Outside f.at_record f.at_field) outside (typed_outcome book (typed 0 (request_of t).at fields (in_notation t.locale t.language book)))) ≡ Refused i j why → ⊥
      at_text (Some f) outside is e = cc
      at_text None (Some f) is e = cc
      at_text None None is e = not_typed (typed 0 (request_of t).at fields (in_notation t.locale t.language book)) (all is) e

pub never_refuses : (t : Target) (book left : Book) (r : Result (ℕ × ℕ) ImportError) (before now : Option (List ℕ)) → IsPlainBook book → 0 < length book.sheets
    → (RestsOnBytes r → RestsOn (request_of t) book left r before now) → ((e : BookError) → r ≡ Err (errors.Book e) → ⊥) → NeverRefuses r
never_refuses t book left (Ok counts) before now plain some rests unasked = tt
never_refuses t book left (Err (errors.Book e)) before now plain some rests unasked = unasked e refl
never_refuses t book left (Err (errors.Blocked i j why)) before now plain some rests unasked =
    let told = (rests tt).tells in
    not_refused t book plain some i j told.0 _ told.2
never_refuses t book left (Err (errors.NotUtf8 i j)) before now plain some rests unasked = tt
never_refuses t book left (Err (errors.OutsideSheet i j)) before now plain some rests unasked = tt
never_refuses t book left (Err errors.ReadFault) before now plain some rests unasked = tt
never_refuses t book left (Err errors.TooManyTurns) before now plain some rests unasked = tt
never_refuses t book left (Err errors.OutOfMemory) before now plain some rests unasked = tt

-- The texts. ----

refused_chars : chars (codes "refused\t") ≡ codes "refused\t"
unfolding chars
refused_chars = refl

pub not_utf8_chars : chars (codes "NotUtf8") ≡ codes "NotUtf8"
unfolding chars
not_utf8_chars = refl

pub outside_chars : chars (codes "OutsideSheet") ≡ codes "OutsideSheet"
unfolding chars
outside_chars = refl

pub line_told : (a b c d e f g new : List ℕ) (i j : ℕ) (name : List ℕ) → a ≡ [] → b ≡ a ++ chars (codes "refused\t") → c ≡ b ++ decimal i → d ≡ c ++ tab ∷ [] → e ≡ d ++ decimal j → f ≡ e ++ tab ∷ [] → g ≡ f ++ name → new ≡ g ++ line_feed ∷ []
    → new ≡ refused_line i j name
line_told a b c d e f g new i j name o p q r s t u v =
    v
    ∙ ap (λ x. x ++ line_feed ∷ []) (u ∙ ap (λ x. x ++ name) (t ∙ ap (λ x. x ++ tab ∷ []) (s ∙ ap (λ x. x ++ decimal j) (r ∙ ap (λ x. x ++ tab ∷ []) (q ∙ ap (λ x. x ++ decimal i) (p ∙ ap (λ x. x ++ chars (codes "refused\t")) o ∙ refused_chars))))))
    ∙ simp append_assoc

-- the text of a reply that is one
abbrev text_in : List ReplyField → List ℕ
text_in (TextField text ∷ fields) = text
text_in fields = []

abbrev step_text : Stepped Book → List ℕ
step_text (Ok done) = text_in done.1
step_text (Err refusal) = []

-- the markup of the first sheet
read_first : (book : Book) (o : Option Sheet) (left : Book) (text : List ℕ)
    → (let read : Stepped Book = found_or InvalidSheet (option_map (λ sheet. unless_refused [] book (text_field (sheet_markup book sheet))) o) in read ≡ Ok (left, text_field text))
    → text ≡ option_map_or (sheet_markup book) o []
read_first book None left text e = cc
read_first book (Some sheet) left text e = sym (ap step_text e)

pub markup_told : (book left : Book) (text : List ℕ) → markup_step 0 book ≡ Ok (left, text_field text) → text ≡ first_markup book
unfolding markup_step
markup_told book left text e = read_first book (slice_get book.sheets 0) left text e

-- A request in a known notation isn't refused in a book with a sheet. ----

none_of : {X : Type 0} (a b : Bool) (x y : X) → IsNone (let o : Option X = cond a (Some x) (cond b (Some y) None) in o) → (a ≡ false) × (b ≡ false)
none_of true b x y h = cc h
none_of false true x y h = cc h
none_of false false x y h = (refl, refl)

has_first : (n : ℕ) → 0 < n → not (nat_lt 0 n) ≡ false
has_first n h = ap not (lt-ltb 0 n h)

pub known_request : (t : Target) (book : Book) → 0 < length book.sheets → IsNone (target_refusal t book.tables) → request_refusal (request_of t) book ≡ None
known_request t book some known =
    let both = none_of (is_none (locale_of book.tables t.locale)) (is_none (language_of book.tables t.language)) _ _ known in
    rw (has_first (length book.sheets) some, both.0, both.1) refl

-- Statuses. ----

pub never_4 : {T : Type 0} (r : Result T ImportError) → status_of r ≡ 4 → ⊥
never_4 (Ok counts) e = omega (arith, e)
never_4 (Err (errors.Book why)) e = omega (arith, e)
never_4 (Err errors.ReadFault) e = omega (arith, e)
never_4 (Err errors.TooManyTurns) e = omega (arith, e)
never_4 (Err (errors.NotUtf8 i j)) e = omega (arith, e)
never_4 (Err (errors.OutsideSheet i j)) e = omega (arith, e)
never_4 (Err (errors.Blocked i j why)) e = omega (arith, e)
never_4 (Err errors.OutOfMemory) e = omega (arith, e)

pub told_status : (r s : ℕ) → (r ≡ s) ⊎ (r ≡ 4) → (r ≡ 0) ⊎ (r ≡ 8) → r ≡ s
told_status r s (inl is) at = is
told_status r s (inr is) (inl at) = absurd (omega arith)
told_status r s (inr is) (inr at) = absurd (omega arith)

-- The text of an answer. ----

module _ {E F : Type 0} (book : Book) (given : Result (String Global) E) (made : Result (String Global) F) (same : IfOk made (λ m. given ≡ Ok m)) where
  told_by : (P : List ℕ → Type 0) → IfOk given (λ t. P (chars (string_bytes t))) → IfOk made (λ t. P (chars (string_bytes t)))
  told_by P h = by made same
    where
      by : (m : Result (String Global) F) → IfOk m (λ x. given ≡ Ok x) → IfOk m (λ t. P (chars (string_bytes t)))
      by (Ok x) is = rw is at h
      by (Err e) is = tt

  pub table_told : {A : Type 0} (answer : Result A ImportError) (counts : A) → answer ≡ Ok counts → IfOk given (λ t. chars (string_bytes t) ≡ first_markup book ++ line_feed ∷ []) → IfOk made (λ t. SaysOf answer book (status_of answer) (chars (string_bytes t)))
  table_told {A} answer counts is h =
      subst (λ (a : Result A ImportError). IfOk made (λ t. SaysOf a book (status_of a) (chars (string_bytes t)))) (sym is) (told_by (λ text. Says (Leaves book) 0 text) (IfOk-weaker given _ _ (λ t e. (refl, e)) h))

  pub no_text_told : {A : Type 0} (answer : Result A ImportError) (i j : ℕ) → answer ≡ Err (errors.NotUtf8 i j) → IfOk given (λ t. chars (string_bytes t) ≡ refused_line i j (chars (codes "NotUtf8")))
      → IfOk made (λ t. SaysOf answer book (status_of answer) (chars (string_bytes t)))
  no_text_told {A} answer i j is h =
      subst (λ (a : Result A ImportError). IfOk made (λ t. SaysOf a book (status_of a) (chars (string_bytes t)))) (sym is)
      (told_by (λ text. Says (NoText i j) 8 text) (IfOk-weaker given _ _ (λ t e. (refl, e ∙ ap (refused_line i j) not_utf8_chars)) h))

  pub outside_told : {A : Type 0} (answer : Result A ImportError) (i j : ℕ) → answer ≡ Err (errors.OutsideSheet i j) → IfOk given (λ t. chars (string_bytes t) ≡ refused_line i j (chars (codes "OutsideSheet")))
      → IfOk made (λ t. SaysOf answer book (status_of answer) (chars (string_bytes t)))
  outside_told {A} answer i j is h =
      subst (λ (a : Result A ImportError). IfOk made (λ t. SaysOf a book (status_of a) (chars (string_bytes t)))) (sym is)
      (told_by (λ text. Says (Outside i j) 8 text) (IfOk-weaker given _ _ (λ t e. (refl, e ∙ ap (refused_line i j) outside_chars)) h))

-- An import answers no refusal of its request where nothing refuses that. ----

pub not_of_request : {T : Type 0} (refusal : Option Refusal) (r : Result T ImportError) → refusal ≡ None → RefusesRequest refusal r → (e : BookError) → r ≡ Err (errors.Book e) → ⊥
not_of_request {T} refusal r none refuses e is = let told = subst (RefusesRequest refusal) is refuses in let other : None ≡ Some told.0 = sym none ∙ told.2 in cc

-- Which statuses there are. ----

pub at_3 : {T : Type 0} (r : Result T ImportError) → status_of r ≡ 3 → r ≡ Err errors.ReadFault
at_3 (Ok counts) e = absurd (omega (arith, e))
at_3 (Err (errors.Book why)) e = absurd (omega (arith, e))
at_3 (Err errors.ReadFault) e = refl
at_3 (Err errors.TooManyTurns) e = absurd (omega (arith, e))
at_3 (Err (errors.NotUtf8 i j)) e = absurd (omega (arith, e))
at_3 (Err (errors.OutsideSheet i j)) e = absurd (omega (arith, e))
at_3 (Err (errors.Blocked i j why)) e = absurd (omega (arith, e))
at_3 (Err errors.OutOfMemory) e = absurd (omega (arith, e))

pub at_5 : {T : Type 0} (r : Result T ImportError) → status_of r ≡ 5 → r ≡ Err errors.TooManyTurns
at_5 (Ok counts) e = absurd (omega (arith, e))
at_5 (Err (errors.Book why)) e = absurd (omega (arith, e))
at_5 (Err errors.ReadFault) e = absurd (omega (arith, e))
at_5 (Err errors.TooManyTurns) e = refl
at_5 (Err (errors.NotUtf8 i j)) e = absurd (omega (arith, e))
at_5 (Err (errors.OutsideSheet i j)) e = absurd (omega (arith, e))
at_5 (Err (errors.Blocked i j why)) e = absurd (omega (arith, e))
at_5 (Err errors.OutOfMemory) e = absurd (omega (arith, e))

-- each but those of reading is one of these
pub settled : {T : Type 0} (r : Result T ImportError) → r ≢ Err errors.ReadFault → r ≢ Err errors.TooManyTurns → (status_of r ≡ 0) ⊎ ((status_of r ≡ 6) ⊎ (status_of r ≡ 8))
settled (Ok counts) f t = inl refl
settled (Err (errors.Book why)) f t = inr (inr refl)
settled (Err errors.ReadFault) f t = absurd (f refl)
settled (Err errors.TooManyTurns) f t = absurd (t refl)
settled (Err (errors.NotUtf8 i j)) f t = inr (inr refl)
settled (Err (errors.OutsideSheet i j)) f t = inr (inr refl)
settled (Err (errors.Blocked i j why)) f t = inr (inr refl)
settled (Err errors.OutOfMemory) f t = inr (inl refl)

-- a number that is none of these
abbrev Fits : ℕ → Type 0
Fits n = (n ≤ 8) × ((n ≢ 7) × ((n ≢ 1) × (n ≢ 2)))

pub statuses : {T : Type 0} (r : Result T ImportError) → Fits (status_of r)
statuses (Ok counts) = (omega arith, (omega arith, (omega arith, omega arith)))
statuses (Err (errors.Book why)) = (omega arith, (omega arith, (omega arith, omega arith)))
statuses (Err errors.ReadFault) = (omega arith, (omega arith, (omega arith, omega arith)))
statuses (Err errors.TooManyTurns) = (omega arith, (omega arith, (omega arith, omega arith)))
statuses (Err (errors.NotUtf8 i j)) = (omega arith, (omega arith, (omega arith, omega arith)))
statuses (Err (errors.OutsideSheet i j)) = (omega arith, (omega arith, (omega arith, omega arith)))
statuses (Err (errors.Blocked i j why)) = (omega arith, (omega arith, (omega arith, omega arith)))
statuses (Err errors.OutOfMemory) = (omega arith, (omega arith, (omega arith, omega arith)))

pub all_statuses : {T : Type 0} (r : Result T ImportError) (n : ℕ) → (n ≡ 4) ⊎ ((n ≡ 6) ⊎ (n ≡ status_of r)) → Fits n
all_statuses r n (inl e) = rw e (omega arith, (omega arith, (omega arith, omega arith)))
all_statuses r n (inr (inl e)) = rw e (omega arith, (omega arith, (omega arith, omega arith)))
all_statuses r n (inr (inr e)) = rw e (statuses r)

pub told_as : (n s k : ℕ) → (k ≡ 3) ⊎ (k ≡ 5) → (n ≡ 4) ⊎ ((n ≡ 6) ⊎ (n ≡ s)) → n ≡ k → s ≡ k
told_as n s k at (inl e) is = absurd (elim at [ inl h ↦ omega (arith, h) | inr h ↦ omega (arith, h) ])
told_as n s k at (inr (inl e)) is = absurd (elim at [ inl h ↦ omega (arith, h) | inr h ↦ omega (arith, h) ])
told_as n s k at (inr (inr e)) is = sym e ∙ is

pub at_end : (n s : ℕ) → (n ≡ 4) ⊎ ((n ≡ 6) ⊎ (n ≡ s)) → (n ≡ 4 → ⊥) → (s ≡ 0) ⊎ ((s ≡ 6) ⊎ (s ≡ 8)) → (n ≡ 0) ⊎ ((n ≡ 6) ⊎ (n ≡ 8))
at_end n s (inl e) quiet h = absurd (quiet e)
at_end n s (inr (inl e)) quiet h = inr (inl e)
at_end n s (inr (inr e)) quiet h = rw e h
