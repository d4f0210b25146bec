-- Words with their sheets: what a split spells, and the reader of one at the front of a text.
use Rattle.std.proofs.Common.{◌≡◌, ℕ, List, [], ◌∷◌, ◌++◌, ◌<◌, length, length-append, arith, true, false, ◌||◌, ◌==◌, Option, Some, None, option_and_then, refl, sym, ◌∙◌, ap, subst, inl, inr, append_assoc, bytes_eq, if◌then◌else◌}
use Rattle.std.specs.List.{list_all}
use Rattle.std.proofs.lemmas.Bool.{and_parts, cases_Bool, or_parts, both_ways}
use Rattle.std.proofs.lemmas.Bool.Decides.{eqb_tells}
use Rattle.std.proofs.lemmas.List.{append_cancel_right}
use Rattle.std.proofs.lemmas.Option.{cond_some, option_and_then_some}
use Rattle.std.proofs.lemmas.Slice.Eq.{bytes_eq-Decides}
use Rattle.ucd_derived.proofs.Computing.{ucd_derived}
use Rattle.ic_laws.specs.Name.{in_quotes, is_identifier, is_a1_cell, is_r1c1_cell, is_sheet_name, needs_quotes}
use Rattle.ic_laws.specs.Scan.{IsEnd, begins_word, first_is, is_digit, is_letter, is_plain, is_word_character, past_run, run_of}
use Rattle.ic_laws.specs.SheetText.{SpellsLocal, SpellsSheet, before_bang, doubled, read_local, sheet_at, word_of_sheet, written_name}
use Rattle.ic_laws.specs.Dialect.{DialectMeaning, IsLawful}
use Rattle.ic_laws.specs.Token.{Token, Local, Spells}
use Rattle.ic_laws.specs.TokenKinds.{OfKind, is_local, is_reference, local_at}
use Rattle.ic_laws.specs.NextToken.{bare_of, local_of, plain_of}
use Rattle.ic_laws.proofs.RunLemmas.{run_and_rest}
use Rattle.ic_laws.proofs.tokens.Characters.{past_run_all, run_of_all, not_all_past}
use Rattle.ic_laws.proofs.tokens.NameReaders.{past_stops}
use Rattle.ic_laws.proofs.tokens.Plain.{bare_complete, bare_sound, decimal_tells, first_front, word_branch}
use Rattle.ic_laws.proofs.tokens.SheetTexts.{all_plain, no_sheet_at_other, no_sheet_without_bang, sheet_complete, sheet_sound, written_other, plain_read}
use Rattle.ic_laws.proofs.tokens.Splits.{mapped, or_else_parts}

-- what is read is spelled
word_parts : (sheet text word name rest : List ℕ) → word_of_sheet sheet text ≡ Some ((name, word), rest)
    → (sheet ≡ name) × (text ≡ word ++ rest) × (is_identifier word ≡ true) × (first_is is_word_character rest ≡ false)
word_parts sheet text word name rest e =
    let run = run_of is_word_character text in
    let past = past_run is_word_character text in
    let p = cond_some (is_identifier run) ((sheet, run), past) ((name, word), rest) e in
    let names : sheet ≡ name = ap (λ (f : (List ℕ × List ℕ) × List ℕ). f.0.0) p.1 in
    let words : run ≡ word = ap (λ (f : (List ℕ × List ℕ) × List ℕ). f.0.1) p.1 in
    let after : past ≡ rest = ap (λ (f : (List ℕ × List ℕ) × List ℕ). f.1) p.1 in
    (names, run_and_rest is_word_character text ∙ ap (λ x. x ++ past) words ∙ ap (λ x. word ++ x) after, sym (ap is_identifier words) ∙ p.0, sym (ap (first_is is_word_character) after) ∙ past_stops is_word_character text)

pub local_sound : (text sheet word rest : List ℕ) → read_local text ≡ Some ((sheet, word), rest) → (front : List ℕ) × (text ≡ front ++ rest) × SpellsLocal front sheet word × (first_is is_word_character rest ≡ false)
unfolding read_local
local_sound text sheet word rest e =
    option_and_then_some (λ (f : List ℕ × List ℕ). word_of_sheet f.0 f.1) (sheet_at text) ((sheet, word), rest) e
    (λ x w b.
    let p = word_parts x.0 x.1 word sheet rest b in
    let s = sheet_sound text x.0 x.1 w in (
      s.0 ++ word,
      s.2 ∙ ap (λ t. s.0 ++ t) p.1 ∙ sym (append_assoc s.0 word rest),
      record { before = s.0; whole = refl; named = subst (λ n. SpellsSheet s.0 (Some n)) p.0 s.1; identifier = p.2 },
      p.3,
    ))

-- what is spelled is read
identifier_run : (word : List ℕ) → is_identifier word ≡ true → (first_is begins_word word ≡ true) × (list_all is_word_character word ≡ true)
identifier_run word h =
    let a = and_parts _ _ (and_parts _ _ (and_parts _ _ h).0).0 in
    let b = and_parts _ _ (and_parts _ _ a.0).0 in
    let c = and_parts _ _ (and_parts _ _ b.0).0 in
    and_parts _ _ c.0

word_complete : (sheet word rest : List ℕ) → is_identifier word ≡ true → first_is is_word_character rest ≡ false → word_of_sheet sheet (word ++ rest) ≡ Some ((sheet, word), rest)
word_complete sheet word rest h k =
    let all = (identifier_run word h).1 in
    rw (run_of_all is_word_character word rest all k, past_run_all is_word_character word rest all k, h) refl

pub local_complete : (front sheet word rest : List ℕ) → SpellsLocal front sheet word → first_is is_word_character rest ≡ false → read_local (front ++ rest) ≡ Some ((sheet, word), rest)
unfolding read_local
local_complete front sheet word rest s k =
    let whole : front ++ rest ≡ s.before ++ (word ++ rest) = ap (λ f. f ++ rest) s.whole ∙ append_assoc s.before word rest in
    ap (λ t. option_and_then (λ (f : List ℕ × List ℕ). word_of_sheet f.0 f.1) (sheet_at t)) whole
    ∙ ap (option_and_then (λ (f : List ℕ × List ℕ). word_of_sheet f.0 f.1)) (sheet_complete s.before sheet (word ++ rest) s.named) ∙ word_complete sheet word rest s.identifier k

-- by tokens
pub local_at_sound : (d : DialectMeaning) (text rest : List ℕ) (v : Token) → local_at text ≡ Some (v, rest) → (front : List ℕ) × (text ≡ front ++ rest) × OfKind is_local d v front rest
local_at_sound d text rest v e =
    let p = mapped (λ (f : (List ℕ × List ℕ) × List ℕ). let g : Token × List ℕ = (Local f.0.0 f.0.1, f.1) in g) (read_local text) (v, rest) e in
    let token : Local p.0.0.0 p.0.0.1 ≡ v = ap (λ (f : Token × List ℕ). f.0) p.2 in
    let after : p.0.1 ≡ rest = ap (λ (f : Token × List ℕ). f.1) p.2 in
    let s = local_sound text p.0.0.0 p.0.0.1 rest (p.1 ∙ ap (λ (r : List ℕ). Some ((p.0.0.0, p.0.0.1), r)) after) in
    let Wanted : Token → Type 0 = λ t. OfKind is_local d t s.0 rest in
    (s.0, s.1, subst Wanted token (refl, (s.2, s.3)))

pub local_at_complete : (d : DialectMeaning) (front rest : List ℕ) (v : Token) → OfKind is_local d v front rest → local_at (front ++ rest) ≡ Some (v, rest)
local_at_complete d front rest (Local sheet word) s = rw (local_complete front sheet word rest s.1.0 s.1.1) refl
local_at_complete d front rest v s = absurd (cc)

local_found : (front rest : List ℕ) (read found : Option ((List ℕ × List ℕ) × List ℕ)) (v : Token) → read ≡ found
    → option_and_then (λ (f : (List ℕ × List ℕ) × List ℕ). if bytes_eq f.1 rest then Some (Local f.0.0 f.0.1) else None) found ≡ Some v
    → (sheet : List ℕ) × (word : List ℕ) × (read ≡ Some ((sheet, word), rest)) × (Local sheet word ≡ v)
local_found front rest read None v e h = absurd (cc)
local_found front rest read (Some f) v e h =
    let p = cond_some (bytes_eq f.1 rest) (Local f.0.0 f.0.1) v h in
    (f.0.0, f.0.1, e ∙ ap (λ r. Some ((f.0.0, f.0.1), r)) ((bytes_eq-Decides f.1 rest).0 p.0), p.1)

-- the splits: what begins as a word with its sheet does is nothing else but a reference
local_of_sound : (d : DialectMeaning) (front rest : List ℕ) (v : Token) → local_of front rest ≡ Some v → Spells d v front rest
local_of_sound d front rest v e =
    let p = local_found front rest (read_local (front ++ rest)) (read_local (front ++ rest)) v refl e in
    let s = local_sound (front ++ rest) p.0 p.1 rest p.2 in
    let same : front ≡ s.0 = append_cancel_right front s.0 rest s.1 in
    let Front : List ℕ → Type 0 = λ f. Spells d (Local p.0 p.1) f rest in
    let Wanted : Token → Type 0 = λ t. Spells d t front rest in
    subst Wanted p.3 (subst Front (sym same) (s.2, s.3))

sheet_not_empty : (before sheet : List ℕ) → SpellsSheet before (Some sheet) → 0 < length before
sheet_not_empty before sheet (valid, inl e) = omega (arith, ap length e, length-append (in_quotes sheet) (33 ∷ []))
sheet_not_empty before sheet (valid, inr e) = omega (arith, ap length e.1, length-append sheet (33 ∷ []))

pub local_not_empty : (rest : List ℕ) (v : Token) → local_of [] rest ≡ Some v → ⊥
local_not_empty rest v e =
    let p = local_found [] rest (read_local rest) (read_local rest) v refl e in
    let s = local_sound rest p.0 p.1 rest p.2 in
    omega (arith, ap length s.1, length-append s.0 rest, ap length s.2.whole, length-append s.2.before p.1, sheet_not_empty s.2.before p.0 s.2.named)

local_of_complete : (front rest sheet word : List ℕ) → SpellsLocal front sheet word → first_is is_word_character rest ≡ false → local_of front rest ≡ Some (Local sheet word)
local_of_complete front rest sheet word s k = rw (local_complete front sheet word rest s k, (bytes_eq-Decides rest rest).1 refl) refl

pub bang_no_word : is_word_character 33 ≡ false
unfolding ucd_derived
bang_no_word = refl

pub plain_words : (name : List ℕ) → list_all is_plain name ≡ true → list_all is_word_character name ≡ true
plain_words [] h = refl
plain_words (c ∷ cs) h = let p = and_parts (is_plain c) (list_all is_plain cs) h in rw (p.0) (plain_words cs p.1)

plain_begins : (c : ℕ) → is_plain c ≡ true → (is_digit c || c == 46) ≡ false → begins_word c ≡ true
plain_begins c h k =
    let p = or_parts (is_digit c) (c == 46) k in
    elim (cases_Bool (is_letter c)) [
      | inl e ↦ rw e refl
      | inr e ↦ elim (cases_Bool (c == 95)) [
        | inl f ↦ rw (e, f) refl
        | inr f ↦ let no : is_plain c ≡ false = rw (e, f, p.0, p.1) refl in absurd (both_ways (is_plain c) no h)
      ]
    ]

-- a name that needs no quotes begins as a word does
pub name_begins : (name : List ℕ) → is_sheet_name name ≡ true → needs_quotes name ≡ false → first_is begins_word name ≡ true
name_begins [] h k = absurd (cc)
name_begins (c ∷ cs) h k =
    let plain = all_plain (c ∷ cs) k in
    let a = or_parts _ (is_r1c1_cell (c ∷ cs)) k in
    let b = or_parts _ (is_a1_cell (c ∷ cs)) a.0 in
    let e = or_parts _ (is_digit c || c == 46) b.0 in
    plain_begins c (and_parts (is_plain c) (list_all is_plain cs) plain).0 e.1

quoted_none : (d : DialectMeaning) (n : IsLawful d) (cs rest : List ℕ) → bare_of d (39 ∷ cs) rest ≡ None
unfolding bare_of ucd_derived
quoted_none d n cs rest = elim n.separators [ inl s ↦ rw (decimal_tells d n 39 refl refl, s.0) refl | inr s ↦ rw (decimal_tells d n 39 refl refl, s.0) refl ]

plain_none : (d : DialectMeaning) (name word rest : List ℕ) → first_is begins_word (name ++ 33 ∷ word) ≡ true → list_all is_word_character name ≡ true → bare_of d (name ++ 33 ∷ word) rest ≡ None
plain_none d name word rest begins all =
    let some : list_all is_word_character (name ++ 33 ∷ word) ≡ false = not_all_past is_word_character name word 33 bang_no_word in
    let past : past_run is_word_character (name ++ 33 ∷ word) ≡ 33 ∷ word = past_run_all is_word_character name (33 ∷ word) all bang_no_word in
    word_branch d (name ++ 33 ∷ word) rest begins ∙ rw (some, past) refl

local_bare_none : (d : DialectMeaning) (n : IsLawful d) (front rest sheet word : List ℕ) → SpellsLocal front sheet word → bare_of d front rest ≡ None
local_bare_none d n front rest sheet word s =
    elim s.named.1 [
      | inl e ↦ ap (λ f. bare_of d f rest) (s.whole ∙ ap (λ b. b ++ word) e) ∙ quoted_none d n ((doubled sheet ++ 39 ∷ []) ++ 33 ∷ [] ++ word) rest
      | inr e ↦ let is : front ≡ sheet ++ 33 ∷ word = s.whole ∙ ap (λ b. b ++ word) e.1 ∙ append_assoc sheet (33 ∷ []) word in
          let begins = first_front begins_word sheet (33 ∷ word) (name_begins sheet s.named.0 e.0) in
          ap (λ f. bare_of d f rest) is ∙ plain_none d sheet word rest begins (plain_words sheet (all_plain sheet e.0))
    ]

-- What a split spells, references aside.
pub plain_sound : (d : DialectMeaning) (front rest : List ℕ) (v : Token) → plain_of d front rest ≡ Some v → Spells d v front rest
plain_sound d front rest v e =
    elim (or_else_parts (bare_of d front rest) (local_of front rest) v e) [
      | inl p ↦ bare_sound d front rest v p
      | inr p ↦ local_of_sound d front rest v p.1
    ]

other_complete : (d : DialectMeaning) (n : IsLawful d) (front rest : List ℕ) (v : Token) → is_reference v ≡ false → is_local v ≡ false → Spells d v front rest → plain_of d front rest ≡ Some v
other_complete d n front rest v h k s = rw (bare_complete d n front rest v h k s) refl

pub plain_complete : (d : DialectMeaning) (n : IsLawful d) (front rest : List ℕ) (v : Token) → is_reference v ≡ false → Spells d v front rest → plain_of d front rest ≡ Some v
plain_complete d n front rest (Local sheet word) h s = rw (local_bare_none d n front rest sheet word s.0, local_of_complete front rest sheet word s.0 s.1) refl
plain_complete d n front rest v h s = other_complete d n front rest v h refl s

-- Texts that begin with no word with its sheet.
no_sheet_no_local : (text : List ℕ) → sheet_at text ≡ None → read_local text ≡ None
unfolding read_local
no_sheet_no_local text e = ap (option_and_then (λ (f : List ℕ × List ℕ). word_of_sheet f.0 f.1)) e

-- what begins with a character that is neither plain nor a quote
pub no_local_other : (text : List ℕ) → first_is (λ c. c == 39) text ≡ false → first_is is_plain text ≡ false → local_at text ≡ None
no_local_other text h k = rw (no_sheet_no_local text (no_sheet_at_other text h k)) refl

-- what has no `!` after its plain characters
pub no_local_without_bang : (text : List ℕ) → first_is (λ c. c == 39) text ≡ false → first_is (λ c. c == 33) (past_run is_plain text) ≡ false → local_at text ≡ None
no_local_without_bang text h k = rw (no_sheet_no_local text (no_sheet_without_bang text h k)) refl

pub end_no_bang : (rest : List ℕ) → IsEnd rest → first_is (λ c. c == 33) (past_run is_plain rest) ≡ false
end_no_bang [] h = refl
end_no_bang (c ∷ cs) h =
    let a = or_parts (is_word_character c || c == 33 || c == 58 || c == 36) (c == 91) h in
    let b = or_parts (is_word_character c || c == 33 || c == 58) (c == 36) a.0 in
    let e = or_parts (is_word_character c || c == 33) (c == 58) b.0 in
    let f = or_parts (is_word_character c) (c == 33) e.0 in
    let g = or_parts (is_plain c) (c == 92) f.0 in
    rw (g.0) f.1

run_no_bang : (front rest : List ℕ) → list_all is_word_character front ≡ true → IsEnd rest → first_is (λ c. c == 33) (past_run is_plain (front ++ rest)) ≡ false
run_no_bang [] rest h end = end_no_bang rest end
run_no_bang (c ∷ cs) rest h end =
    let p = and_parts (is_word_character c) (list_all is_word_character cs) h in
    elim (cases_Bool (is_plain c)) [
      | inl e ↦ rw e (run_no_bang cs rest p.1 end)
      | inr e ↦ rw e (elim (eqb_tells c 33) [ inl f ↦ absurd (both_ways (is_word_character c) (ap is_word_character f.1 ∙ bang_no_word) p.0) | inr f ↦ f.0 ])
    ]

quote_begins_none : begins_word 39 ≡ false
unfolding ucd_derived
quote_begins_none = refl

begins_no_quote : (front rest : List ℕ) → first_is begins_word front ≡ true → first_is (λ c. c == 39) (front ++ rest) ≡ false
begins_no_quote [] rest h = absurd (cc)
begins_no_quote (c ∷ cs) rest h = elim (eqb_tells c 39) [ inl e ↦ absurd (both_ways (begins_word c) (ap begins_word e.1 ∙ quote_begins_none) h) | inr e ↦ e.0 ]

-- a run of word characters before an end
pub read_no_run : (front rest : List ℕ) → first_is begins_word front ≡ true → list_all is_word_character front ≡ true → IsEnd rest → read_local (front ++ rest) ≡ None
read_no_run front rest begins all end = no_sheet_no_local (front ++ rest) (no_sheet_without_bang (front ++ rest) (begins_no_quote front rest begins) (run_no_bang front rest all end))

pub no_local_run : (front rest : List ℕ) → first_is begins_word front ≡ true → list_all is_word_character front ≡ true → IsEnd rest → local_at (front ++ rest) ≡ None
no_local_run front rest begins all end = rw (read_no_run front rest begins all end) refl

-- a text that begins with a digit
digit_no_quote : (c : ℕ) → is_digit c ≡ true → (c == 39) ≡ false
digit_no_quote c h = elim (eqb_tells c 39) [ inl e ↦ let no : is_digit c ≡ false = ap is_digit e.1 in absurd (both_ways (is_digit c) no h) | inr e ↦ e.0 ]

digit_plain : (c : ℕ) → is_digit c ≡ true → is_plain c ≡ true
digit_plain c h = elim (cases_Bool (is_letter c)) [ inl e ↦ rw e refl | inr e ↦ rw (e, h) refl ]

needs_first : (c : ℕ) (cs : List ℕ) → is_digit c ≡ true → needs_quotes (c ∷ cs) ≡ true
needs_first c cs h = elim (cases_Bool (list_all is_plain (c ∷ cs))) [ inl e ↦ rw (e, h) refl | inr e ↦ rw e refl ]

digit_written : (c : ℕ) (cs : List ℕ) → is_digit c ≡ true → written_name (c ∷ cs) ≡ None
digit_written c cs h =
    let run : run_of is_plain (c ∷ cs) ≡ c ∷ run_of is_plain cs = rw (digit_plain c h) refl in
    written_other c cs (digit_no_quote c h) ∙ ap (λ r. plain_read r (past_run is_plain (c ∷ cs))) run ∙ rw (needs_first c (run_of is_plain cs) h) refl

pub read_no_digit : (c : ℕ) (cs : List ℕ) → is_digit c ≡ true → read_local (c ∷ cs) ≡ None
read_no_digit c cs h = no_sheet_no_local (c ∷ cs) (ap (option_and_then (λ (f : List ℕ × List ℕ). before_bang f.0 f.1)) (digit_written c cs h))

pub no_local_digit : (c : ℕ) (cs : List ℕ) → is_digit c ≡ true → local_at (c ∷ cs) ≡ None
no_local_digit c cs h = rw (read_no_digit c cs h) refl
