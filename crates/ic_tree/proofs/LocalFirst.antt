-- Words with their sheets at the front of a text: what begins with none, and what else begins where one does.
use Rattle.std.proofs.Common.{◌≡◌, ℕ, ◌-◌, ◌<◌, ◌≤◌, Bool, nat_le, List, [], ◌∷◌, ◌++◌, true, false, ◌||◌, ◌==◌, length, drop, Option, Some, None, option_map, option_and_then, chars, encode_utf8, encode_utf8_all, IsUtf8, refl, sym, ◌∙◌, ap, subst, inl, inr, arith, append_assoc, length-append}
use Rattle.std.specs.List.{list_all, list_any}
use Rattle.std.specs.Str.{IsCharBoundary}
use Rattle.std.proofs.lemmas.Bool.{and_parts, both_ways, cases_Bool, leb-true}
use Rattle.std.proofs.lemmas.Bool.Decides.{eqb_tells, nat_tests}
use Rattle.std.proofs.lemmas.List.{append_cancel_left}
use Rattle.std.proofs.lemmas.List.Folds.{list_any-append}
use Rattle.std.proofs.lemmas.Str.{encode_ascii, encodes-append, encodes-chars}
use Rattle.ucd_derived.proofs.Computing.{ucd_derived}
use Rattle.ic_laws.specs.AmountFront.{number_in_one_pass}
use Rattle.ic_laws.specs.Dialect.{DialectMeaning, IsLawful, begins_reference}
use Rattle.ic_laws.specs.Longest.{read_at}
use Rattle.ic_laws.specs.Name.{in_quotes, is_identifier, needs_quotes}
use Rattle.ic_laws.specs.NextToken.{boolean_or_word}
use Rattle.ic_laws.specs.Scan.{EndsWith, begins_word, first_is, is_blank, is_digit, is_letter, is_plain, is_word_character, past_run, run_of}
use Rattle.ic_laws.specs.SheetText.{SpellsLocal, before_bang, doubled, read_local, sheet_at, written_name}
use Rattle.ic_laws.specs.Split.{longer}
use Rattle.ic_laws.specs.Token.{Token, Local}
use Rattle.ic_laws.specs.TokenKinds.{OfKind, head_at, head_before, is_local, local_at, word_at}
use Rattle.ic_laws.specs.declared.dialect.WordKind.TheVariants as kinds
use Rattle.ic_laws.proofs.tokens.Characters.{past_run_all}
use Rattle.ic_laws.proofs.tokens.Locals.{bang_no_word, local_at_sound, local_sound, name_begins, no_local_other, no_local_without_bang, plain_words as all_words}
use Rattle.ic_laws.proofs.tokens.SheetTexts.{all_plain, plain_read, written_other}
use Rattle.ic_laws.proofs.printing.Signs.{no_number, not_decimal, or_neither}
use Rattle.ic_laws.proofs.printing.Words.{keeps_first, starts, word_no_number}
use Rattle.ic_tree.proofs.CutLemmas.{cut_after, reads_front}
use Rattle.ic_laws.proofs.tokens.Splits.{front_in_front, mapped}
use Rattle.ic_tree.specs.Lexing.{IsPastLocal, named_at}
use Rattle.ic_laws.proofs.parsing.ListFuelLemmas.{option_cases as none_or_some}

-- what begins neither a word nor a reference begins none
dot_quotes : (cs : List ℕ) → needs_quotes (46 ∷ cs) ≡ true
dot_quotes cs = elim (cases_Bool (list_all is_plain (46 ∷ cs))) [ inl e ↦ rw e refl | inr e ↦ rw e refl ]

dot_plain : is_plain 46 ≡ true
unfolding ucd_derived
dot_plain = refl

dot_none : (cs : List ℕ) → local_at (46 ∷ cs) ≡ None
unfolding read_local
dot_none cs =
    let run : run_of is_plain (46 ∷ cs) ≡ 46 ∷ run_of is_plain cs = rw dot_plain refl in
    let none : written_name (46 ∷ cs) ≡ None = written_other 46 cs refl ∙ ap (λ r. plain_read r (past_run is_plain (46 ∷ cs))) run ∙ rw (dot_quotes (run_of is_plain cs)) refl in
    let sheet : sheet_at (46 ∷ cs) ≡ None = ap (option_and_then (λ (f : List ℕ × List ℕ). before_bang f.0 f.1)) none in
    rw sheet refl

quote_starts : starts 39 ≡ true
unfolding ucd_derived
quote_starts = refl

pub no_local_start : (c : ℕ) (cs : List ℕ) → starts c ≡ false → local_at (c ∷ cs) ≡ None
no_local_start c cs h =
    elim (eqb_tells c 46) [
      | inl e ↦ ap (λ x. local_at (x ∷ cs)) e.1 ∙ dot_none cs
      | inr e ↦ no_local_other (c ∷ cs)
          (elim (eqb_tells c 39) [ inl q ↦ absurd (both_ways (starts c) h (ap starts q.1 ∙ quote_starts)) | inr q ↦ q.0 ])
          (not_plain e.0)
    ]
  where
    not_plain : (c == 46) ≡ false → is_plain c ≡ false
    not_plain k =
        let p = or_neither (begins_reference c) (begins_word c) h in
        let a = or_neither (is_letter c || is_digit c) _ p.0 in
        let b = or_neither (is_letter c) (is_digit c) a.0 in
        let w = or_neither (is_letter c || c == 95) (c == 92) p.1 in
        let u = or_neither (is_letter c) (c == 95) w.0 in
        rw (b.0, b.1, u.1, k) refl

-- nor does a text that begins with no quote and has no `!` after its word characters
bang_behind : (text : List ℕ) → first_is (λ c. c == 33) (past_run is_word_character text) ≡ false → first_is (λ c. c == 33) (past_run is_plain text) ≡ false
bang_behind [] h = refl
bang_behind (c ∷ cs) h =
    elim (cases_Bool (is_plain c)) [
      | inl p ↦ let more : first_is (λ c. c == 33) (past_run is_word_character cs) ≡ false = rw p at h in rw p (bang_behind cs more)
      | inr p ↦ rw p (elim (eqb_tells c 33) [ inl e ↦ absurd (let word : is_word_character c ≡ false = ap is_word_character e.1 ∙ bang_no_word in let no : true ≡ false = rw (word, e.0) at h in cc) | inr e ↦ e.0 ])
    ]

pub no_local_by_word : (text cs : List ℕ) (c : ℕ) → text ≡ c ∷ cs → (c ≡ 39 → ⊥) → first_is (λ c. c == 33) (past_run is_word_character text) ≡ false → local_at text ≡ None
no_local_by_word text cs c is no_quote h =
    let quote : first_is (λ c. c == 39) text ≡ false = ap (first_is (λ c. c == 39)) is ∙ elim (eqb_tells c 39) [ inl e ↦ absurd (no_quote e.1) | inr e ↦ e.0 ] in
    no_local_without_bang text quote (bang_behind text h)

word_behind : (f : Token × List ℕ) (more : List ℕ) (found : Option Token) → length f.1 ≤ length more → longer (Some f) (longer (option_map (λ u. let g : Token × List ℕ = (u, more) in g) found) None) ≡ Some f
word_behind f more None le = refl
word_behind f more (Some u) le = keeps_first f.1 more f.0 u le

after_name : (d : DialectMeaning) → IsLawful d → (name more : List ℕ) (f : Token × List ℕ) → first_is begins_word name ≡ true → list_all is_word_character name ≡ true → length f.1 ≤ length (33 ∷ more) → longer (Some f) (named_at d (name ++ 33 ∷ more)) ≡ Some f
after_name d n [] more f begins all le = absurd (cc)
after_name d n (c ∷ cs) more f begins all le =
    let text : List ℕ = c ∷ cs ++ 33 ∷ more in
    let run = run_of is_word_character text in
    let past : past_run is_word_character text ≡ 33 ∷ more = past_run_all is_word_character (c ∷ cs) (33 ∷ more) all bang_no_word in
    let heads : head_at d text ≡ None = rw begins (ap (λ p. head_before d run (past_run is_blank p)) past) in
    let words : word_at d text ≡ option_map (λ u. (u, 33 ∷ more)) (boolean_or_word d run (d.find kinds.Boolean run)) =
    rw begins (ap (λ r. option_map (λ u. let g : Token × List ℕ = (u, r) in g) (boolean_or_word d run (d.find kinds.Boolean run))) past) in
    let number = word_no_number d n c (cs ++ 33 ∷ more) begins in
    ap (λ h. longer (Some f) (longer h (longer (word_at d text) (number_in_one_pass d text)))) heads ∙ ap (λ w. longer (Some f) (longer w (number_in_one_pass d text))) words
    ∙ ap (λ m. longer (Some f) (longer (option_map (λ u. (u, 33 ∷ more)) (boolean_or_word d run (d.find kinds.Boolean run))) m)) number
    ∙ word_behind f (33 ∷ more) (boolean_or_word d run (d.find kinds.Boolean run)) le

quote_no_word : begins_word 39 ≡ false
unfolding ucd_derived
quote_no_word = refl

after_quote : (d : DialectMeaning) → IsLawful d → (cs : List ℕ) → named_at d (39 ∷ cs) ≡ None
after_quote d n cs = rw (quote_no_word, no_number d 39 cs refl (not_decimal d n 39 refl refl)) refl

spelled_first : (d : DialectMeaning) → IsLawful d → (text front sheet word : List ℕ) (f : Token × List ℕ) → text ≡ front ++ f.1 → SpellsLocal front sheet word → longer (Some f) (named_at d text) ≡ Some f
spelled_first d n text front sheet word f whole s =
    elim s.named.1 [
      | inl e ↦
          let is : text ≡ 39 ∷ ((((doubled sheet ++ 39 ∷ []) ++ 33 ∷ []) ++ word) ++ f.1) = whole ∙ ap (λ x. x ++ f.1) (s.whole ∙ ap (λ b. b ++ word) e) in
          ap (longer (Some f)) (ap (named_at d) is ∙ after_quote d n ((((doubled sheet ++ 39 ∷ []) ++ 33 ∷ []) ++ word) ++ f.1))
      | inr e ↦
          let is : text ≡ sheet ++ 33 ∷ (word ++ f.1) =
          whole ∙ ap (λ x. x ++ f.1) (s.whole ∙ ap (λ b. b ++ word) e.1 ∙ append_assoc sheet (33 ∷ []) word) ∙ append_assoc sheet (33 ∷ word) f.1 in
          ap (λ t. longer (Some f) (named_at d t)) is
          ∙ after_name d n sheet (word ++ f.1) f (name_begins sheet s.named.0 e.0) (all_words sheet (all_plain sheet e.0)) (omega (arith, length-append word f.1))
    ]

by_token : (d : DialectMeaning) → IsLawful d → (text front : List ℕ) (f : Token × List ℕ) (t : Token) → f.0 ≡ t → text ≡ front ++ f.1 → OfKind is_local d t front f.1 → longer (Some f) (named_at d text) ≡ Some f
by_token d n text front f (Local sheet word) e whole s = spelled_first d n text front sheet word f whole s.1.0
by_token d n text front f t e whole s = absurd (cc)

pub local_over_named : (d : DialectMeaning) → IsLawful d → (text : List ℕ) (f : Token × List ℕ) → Some f ≡ local_at text → longer (local_at text) (named_at d text) ≡ Some f
local_over_named d n text f e =
    let s = local_at_sound d text f.1 f.0 (sym e) in
    ap (λ l. longer l (named_at d text)) (sym e) ∙ by_token d n text s.0 f f.0 refl s.1 s.2

pub local_ends : (d : DialectMeaning) (text : List ℕ) (f : Token × List ℕ) → Some f ≡ local_at text → EndsWith text f.1
local_ends d text f e = let s = local_at_sound d text f.1 f.0 (sym e) in (s.0, s.1)

-- the word with its sheet at the front, and where it ends
abbrev pub HasLocal : List ℕ → Option ((List ℕ × List ℕ) × ℕ) → Type 0
HasLocal text None = local_at (chars text) ≡ None
HasLocal text (Some found) = IsCharBoundary text found.1 × (local_at (chars text) ≡ Some (Local found.0.0 found.0.1, chars (drop found.1 text)))

pub local_found_first : (text : List ℕ) (found : Option ((List ℕ × List ℕ) × ℕ)) → IsUtf8 text → found ≡ read_at read_local text 0 → HasLocal text found
local_found_first text found u e = subst (HasLocal text) (sym (e ∙ reads_front read_local text u)) (go (read_local (chars text)) refl)
  where
    go : (o : Option ((List ℕ × List ℕ) × List ℕ)) → read_local (chars text) ≡ o → HasLocal text (option_map (λ f. (f.0, length text - length (encode_utf8_all f.1))) o)
    go None e = rw e refl
    go (Some ((sheet, word), rest)) e =
        let front = local_sound (chars text) sheet word rest e in
        let cut = cut_after text front.0 rest u front.1 in
        let size : length text - length (encode_utf8_all rest) ≡ length (encode_utf8_all front.0) =
        omega (arith, ap length (sym (encodes-chars text u) ∙ ap encode_utf8_all front.1 ∙ encodes-append front.0 rest), length-append (encode_utf8_all front.0) (encode_utf8_all rest)) in (
          subst (IsCharBoundary text) (sym size) cut.boundary,
          rw e (ap (λ x. Some (Local sheet word, x)) (sym cut.after ∙ ap (λ k. chars (drop k text)) (sym size))),
        )

-- where it ends: a rest of a text that goes on with no word, from behind a sheet's name on, is no longer than what stands
-- after the word
no_longer : (word after front rest : List ℕ) → list_all is_word_character word ≡ true → word ++ after ≡ front ++ rest → first_is is_word_character rest ≡ false → length rest ≤ length after
no_longer [] after front rest all e stop = omega (arith, ap length e, length-append front rest)
no_longer (c ∷ cs) after [] rest all e stop =
    absurd (let goes : first_is is_word_character rest ≡ true = ap (first_is is_word_character) (sym e) ∙ (and_parts (is_word_character c) (list_all is_word_character cs) all).0 in both_ways (first_is is_word_character rest) stop goes)
no_longer (c ∷ cs) after (x ∷ xs) rest all e stop = no_longer cs after xs rest (and_parts (is_word_character c) (list_all is_word_character cs) all).1 (cc) stop

-- the mark of a front stands in each rest from before it on
marked : (front before : List ℕ) (mark o : ℕ) (other : List ℕ) → front ++ mark ∷ [] ≡ before ++ o ∷ other → list_any (λ c. c == mark) (o ∷ other) ≡ true
marked front [] mark o other e = ap (list_any (λ c. c == mark)) (sym e) ∙ list_any-append (λ c. c == mark) front (mark ∷ []) ∙ last (list_any (λ c. c == mark) front)
  where
    last : (b : Bool) → (b || list_any (λ c. c == mark) (mark ∷ [])) ≡ true
    last true = refl
    last false = let same : (mark == mark) ≡ true = grind (arith, nat_tests) in rw same refl
marked [] (b ∷ bs) mark o other e = absurd (omega (arith, ap length e, length-append (b ∷ bs) (o ∷ other)))
marked (f ∷ fs) (b ∷ bs) mark o other e = marked fs bs mark o other (cc)

-- what a text with a word with its sheet falls into
record LocalParts (text rest : List ℕ) : Type 0 where
  name : List ℕ
  word : List ℕ
  split : text ≡ name ++ 33 ∷ (word ++ rest)
  all : list_all is_word_character word ≡ true
  plain : first_is (λ c. c == 39) text ≡ false → list_all is_word_character name ≡ true

of_identifier : (word : List ℕ) → is_identifier word ≡ true → list_all is_word_character word ≡ true
of_identifier word h =
    let form = and_parts _ _ (and_parts _ _ (and_parts _ _ h).0).0 in
    let apart = and_parts _ _ (and_parts _ _ (and_parts _ _ (and_parts _ _ form.0).0).0).0 in
    (and_parts _ _ apart.0).1

local_parts : (text : List ℕ) (f : Token × List ℕ) → local_at text ≡ Some f → LocalParts text f.1
local_parts text f e =
    let m = mapped (λ (f : (List ℕ × List ℕ) × List ℕ). let t : Token × List ℕ = (Local f.0.0 f.0.1, f.1) in t) (read_local text) f e in
    subst (LocalParts text) (ap (λ (t : Token × List ℕ). t.1) m.2) (read m.0 m.1)
  where
    read : (x : (List ℕ × List ℕ) × List ℕ) → read_local text ≡ Some x → LocalParts text x.1
    read ((sheet, word), rest) k =
        let s = local_sound text sheet word rest k in
        let words = of_identifier word s.2.identifier in
        let spelled = s.2 in
        elim spelled.named.1 [
          | inl q ↦ let is : text ≡ in_quotes sheet ++ 33 ∷ (word ++ rest) = s.1 ∙ ap (λ x. x ++ rest) (spelled.whole ∙ ap (λ b. b ++ word) q ∙ append_assoc (in_quotes sheet) (33 ∷ []) word) ∙ append_assoc (in_quotes sheet) (33 ∷ word) rest in
              record { name = in_quotes sheet; word = word; split = is; all = words; plain = λ no. absurd (let yes : true ≡ false = sym (ap (first_is (λ c. c == 39)) is) ∙ no in cc) }
          | inr q ↦ let is : text ≡ sheet ++ 33 ∷ (word ++ rest) = s.1 ∙ ap (λ x. x ++ rest) (spelled.whole ∙ ap (λ b. b ++ word) q.1 ∙ append_assoc sheet (33 ∷ []) word) ∙ append_assoc sheet (33 ∷ word) rest in
              record { name = sheet; word = word; split = is; all = words; plain = λ no. all_words sheet (all_plain sheet q.0) }
        ]

-- so where the mark doesn't stand in the rest
by_mark : (text rest : List ℕ) (f : Token × List ℕ) → EndsWith text rest → first_is is_word_character rest ≡ false → (p : LocalParts text f.1)
    → ((o : ℕ) (other : List ℕ) → rest ≡ (o ∷ other) ++ (p.word ++ f.1) → list_any (λ c. c == 33) (o ∷ other) ≡ true → ⊥) → length rest ≤ length f.1
by_mark text rest f ends stop p unmarked =
    let body = p.word ++ f.1 in
    let whole : (p.name ++ 33 ∷ []) ++ body ≡ ends.0 ++ rest = append_assoc p.name (33 ∷ []) body ∙ sym p.split ∙ ends.1 in
    let m = front_in_front (p.name ++ 33 ∷ []) body ends.0 rest whole in
    elim m.2 [
      | inl e ↦ no_longer p.word f.1 m.0 rest p.all (append_cancel_left (p.name ++ 33 ∷ []) body (m.0 ++ rest) (whole ∙ ap (λ x. x ++ rest) e ∙ append_assoc (p.name ++ 33 ∷ []) m.0 rest)) stop
      | inr e ↦ before m.1 e (append_cancel_left ends.0 rest (m.1 ++ body) (sym whole ∙ ap (λ x. x ++ body) e ∙ append_assoc ends.0 m.1 body))
    ]
  where
    before : (other : List ℕ) → p.name ++ 33 ∷ [] ≡ ends.0 ++ other → rest ≡ other ++ (p.word ++ f.1) → length rest ≤ length f.1
    before [] e is = no_longer p.word f.1 [] rest p.all (sym is) stop
    before (o ∷ other) e is = absurd (unmarked o other is (marked p.name ends.0 33 o other e))

any_byte : (text : List ℕ) → list_any (λ c. c == 33) text ≡ true → list_any (λ b. b == 33) (encode_utf8_all text) ≡ true
any_byte [] h = h
any_byte (c ∷ cs) h =
    list_any-append (λ b. b == 33) (encode_utf8 c) (encode_utf8_all cs)
    ∙ elim (eqb_tells c 33) [
      | inl e ↦ ap (λ x. list_any (λ b. b == 33) x || list_any (λ b. b == 33) (encode_utf8_all cs)) (ap encode_utf8 e.1 ∙ encode_ascii 33 (omega arith))
      | inr e ↦ let more : list_any (λ c. c == 33) cs ≡ true = rw (e.0) at h in rw (any_byte cs more) (or_true (list_any (λ b. b == 33) (encode_utf8 c)))
    ]
  where
    or_true : (b : Bool) → (b || true) ≡ true
    or_true true = refl
    or_true false = refl

pub past_by_bytes : (text bytes : List ℕ) → IsUtf8 bytes → EndsWith text (chars bytes) → first_is is_word_character (chars bytes) ≡ false → list_any (λ b. b == 33) bytes ≡ false → IsPastLocal text (chars bytes)
past_by_bytes text bytes u ends stop none f e =
    let p = local_parts text f e in
    by_mark text (chars bytes) f ends stop p
    (λ o other is any.
    let in_rest : list_any (λ c. c == 33) (chars bytes) ≡ true = ap (list_any (λ c. c == 33)) is ∙ list_any-append (λ c. c == 33) (o ∷ other) (p.word ++ f.1) ∙ rw any refl in
    let in_bytes : list_any (λ b. b == 33) bytes ≡ true = ap (list_any (λ b. b == 33)) (sym (encodes-chars bytes u)) ∙ any_byte (chars bytes) in_rest in
    both_ways (list_any (λ b. b == 33) bytes) none in_bytes)

-- or where it stands after the word characters, and the rest is shorter
pub past_by_length : (text cs after rest : List ℕ) (c : ℕ) → text ≡ c ∷ cs → (c ≡ 39 → ⊥) → after ≡ past_run is_word_character text → EndsWith text rest → first_is is_word_character rest ≡ false → length rest < length after → IsPastLocal text rest
past_by_length text cs after rest c is no_quote word ends stop short f e =
    let p = local_parts text f e in
    let plain : first_is (λ c. c == 39) text ≡ false = ap (first_is (λ c. c == 39)) is ∙ elim (eqb_tells c 39) [ inl q ↦ absurd (no_quote q.1) | inr q ↦ q.0 ] in
    let mark : after ≡ 33 ∷ (p.word ++ f.1) = word ∙ ap (past_run is_word_character) p.split ∙ past_run_all is_word_character p.name (33 ∷ (p.word ++ f.1)) (p.plain plain) bang_no_word in
    by_mark text rest f ends stop p (λ o other k any. omega (arith, ap length mark, ap length k, length-append (o ∷ other) (p.word ++ f.1), short))

-- a reference that no word with its sheet is longer than is compared with a head, a word and a number alone
under : (f l : Token × List ℕ) (m : Option (Token × List ℕ)) → longer (Some l) m ≡ Some l → length f.1 ≤ length l.1 → longer (Some f) m ≡ Some f
under f l None e le = refl
under f l (Some x) e le = keeps_first f.1 x.1 f.0 x.0 (below x e)
  where
    below : (x : Token × List ℕ) → longer (Some l) (Some x) ≡ Some l → length f.1 ≤ length x.1
    below x e =
        elim (cases_Bool (nat_le (length l.1) (length x.1))) [
          | inl p ↦ omega (arith, le, leb-true (length l.1) (length x.1) p)
          | inr p ↦ let same : ◌≡◌ {A = Option (Token × List ℕ)} (Some x) (Some l) = rw p at e in let is : x ≡ l = cc in omega (arith, le, ap (λ (t : Token × List ℕ). length t.1) is)
        ]

pub without_local : (d : DialectMeaning) → IsLawful d → (text : List ℕ) (f : Token × List ℕ) → IsPastLocal text f.1 → longer (Some f) (named_at d text) ≡ longer (Some f) (longer (local_at text) (named_at d text))
without_local d n text f past =
    elim (none_or_some (local_at text)) [
      | inl e ↦ rw e refl
      | inr e ↦ let over = local_over_named d n text e.0 (sym e.1) in
          let le = past e.0 e.1 in
          let first : longer (Some e.0) (named_at d text) ≡ Some e.0 = ap (λ l. longer l (named_at d text)) (sym e.1) ∙ over in
          under f e.0 (named_at d text) first le ∙ sym (ap (longer (Some f)) over ∙ keeps_first f.1 e.0.1 f.0 e.0.0 le)
    ]
