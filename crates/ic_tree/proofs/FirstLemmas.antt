-- The first character of a text tells which kinds of tokens can stand there.
use Rattle.std.proofs.Common.{◌≡◌, ℕ, ◌<◌, ◌≤◌, List, [], ◌∷◌, ◌⊎◌, Bool, true, false, ◌||◌, ◌==◌, length, nat_le, not, Option, Some, None, option_map, refl, sym, ◌∙◌, ap, ap₂, subst, inl, inr, arith, length-append}
use Rattle.std.proofs.lemmas.Bool.{and_parts, cases_Bool, le-leb}
use Rattle.std.proofs.lemmas.Bool.Decides.{eqb_tells}
use Rattle.ucd_derived.proofs.Computing.{ucd_derived}
use Rattle.ic_laws.specs.AmountFront.{number_in_one_pass}
use Rattle.ic_laws.specs.Character.{open_bracket}
use Rattle.ic_laws.specs.Dialect.{DialectMeaning, IsLawful, begins_reference}
use Rattle.ic_laws.specs.NextToken.{boolean_or_word, look_up}
use Rattle.ic_laws.specs.declared.dialect.WordKind.TheVariants as kinds
use Rattle.ic_laws.specs.Scan.{EndsWith, begins_word, first_is, is_blank, is_digit, is_letter, is_word_character, past_run, run_of}
use Rattle.ic_laws.specs.Split.{FindsBest, longer, or_else}
use Rattle.ic_laws.specs.Token.{Token, Close, Hash, Str, Spells}
use Rattle.ic_laws.specs.TokenKinds.{OfKind, closed, error_at, head_at, head_before, is_number, local_at, one_at, one_table, reference_at, text_at, token_by_kinds, two_at, two_table, word_at}
use Rattle.ic_laws.specs.declared.reference.RefToken.{RefToken}
use Rattle.ic_laws.proofs.tokens.Kinds.{by_kinds, error_best}
use Rattle.ic_laws.proofs.tokens.NameReaders.{head_at_sound, word_at_sound}
use Rattle.ic_laws.proofs.tokens.Lexing.{Begins, spelled_begins}
use Rattle.ic_laws.proofs.tokens.Next.{ComesAfter, token_best}
use Rattle.ic_laws.proofs.tokens.Numbers.{number_in_one_pass_best}
use Rattle.ic_laws.proofs.tokens.Splits.{mapped}
use Rattle.ic_laws.proofs.printing.Signs.{mark_begins_none, no_error_first, no_number, not_decimal, or_neither, two_none}
use Rattle.ic_laws.proofs.printing.Words.{keeps_first, start_kinds, starts, word_no_number, longer_none}
use Rattle.ic_tree.proofs.LocalFirst.{no_local_start}
use Rattle.ic_tree.specs.Lexing.{found, is_past_word, named_at}
use Rattle.ic_laws.proofs.parsing.ListFuelLemmas.{option_cases as none_or_some}

-- what begins neither a word nor a reference
plain_first : (d : DialectMeaning) → IsLawful d → (c : ℕ) (cs : List ℕ) → starts c ≡ false
    → token_by_kinds d (c ∷ cs) ≡ longer (number_in_one_pass d (c ∷ cs)) (longer (text_at (c ∷ cs)) (longer (error_at d (c ∷ cs)) (longer (two_at (c ∷ cs)) (one_at d (c ∷ cs)))))
plain_first d n c cs h =
    let parts = or_neither (begins_reference c) (begins_word c) h in
    rw (n.reference_begins (c ∷ cs) parts.0, no_local_start c cs h, parts.1) refl

mark_first : (c : ℕ) → (begins_reference c ≡ false) × (begins_word c ≡ false) → starts c ≡ false
mark_first c p = rw (p.0, p.1) refl

-- a quote
quote_no_sign : (d : DialectMeaning) → IsLawful d → (cs : List ℕ) → one_at d (34 ∷ cs) ≡ None
quote_no_sign d n cs = elim n.separators [ inl s ↦ rw (s.0) refl | inr s ↦ rw (s.0) refl ]

pub quote_kinds : (d : DialectMeaning) → IsLawful d → (cs : List ℕ) → token_by_kinds d (34 ∷ cs) ≡ option_map (λ f. found (Str f.0) f.1) (closed false cs)
quote_kinds d n cs =
    plain_first d n 34 cs (mark_first 34 (mark_begins_none 34 (omega arith) refl))
    ∙ rw (no_number d 34 cs refl (not_decimal d n 34 refl refl), no_error_first d n 34 cs refl, two_none 34 cs refl refl, quote_no_sign d n cs) (longer_none (text_at (34 ∷ cs)))

-- a sign of two characters is longer than the sign of its first
pub two_first : (d : DialectMeaning) (text : List ℕ) (f : Token × List ℕ) → two_at text ≡ Some f → longer (two_at text) (one_at d text) ≡ Some f
two_first d [] f k = absurd (cc)
two_first d (c ∷ []) f k = absurd (cc)
two_first d (c ∷ e ∷ cs) f k =
    let m = mapped (λ t. let p : Token × List ℕ = (t, cs) in p) (look_up two_table (c ∷ e ∷ [])) f k in
    let two : two_at (c ∷ e ∷ cs) ≡ Some (m.0, cs) = k ∙ ap (λ p. Some p) (sym m.2) in
    elim (none_or_some (look_up (one_table d.list) (c ∷ []))) [
      | inl n ↦ ap₂ longer two (ap (option_map (λ t. let p : Token × List ℕ = (t, e ∷ cs) in p)) n) ∙ ap (λ p. Some p) m.2
      | inr s ↦ ap₂ longer two (ap (option_map (λ t. let p : Token × List ℕ = (t, e ∷ cs) in p)) s.1) ∙ keeps_first cs (e ∷ cs) m.0 s.0 (omega arith) ∙ ap (λ p. Some p) m.2
    ]

-- a closing bracket
pub close_kinds : (d : DialectMeaning) → IsLawful d → (cs : List ℕ) → token_by_kinds d (41 ∷ cs) ≡ Some (found Close cs)
close_kinds d n cs =
    plain_first d n 41 cs (mark_first 41 (mark_begins_none 41 (omega arith) refl))
    ∙ rw (no_number d 41 cs refl (not_decimal d n 41 refl refl), no_error_first d n 41 cs refl, two_none 41 cs refl refl) refl

-- every token takes a character at least
begins_some : (front : List ℕ) → Begins front → 1 ≤ length front
begins_some [] b = absurd b
begins_some (c ∷ cs) b = omega arith

best_takes : (d : DialectMeaning) → IsLawful d → (kind : Token → Bool) (text : List ℕ) (f : Token × List ℕ) → FindsBest (OfKind kind d) ComesAfter text (Some f) → length f.1 < length text
best_takes d n kind text f b =
    let some = begins_some b.front (spelled_begins d n b.front f.1 f.0 b.spelled.1) in
    omega (arith, some, ap length b.whole, length-append b.front f.1)

error_takes : (d : DialectMeaning) → IsLawful d → (text : List ℕ) (f : Token × List ℕ) → error_at d text ≡ Some f → length f.1 < length text
error_takes d n text f e = best_takes d n _ text f (subst (FindsBest (OfKind _ d) ComesAfter text) e (error_best d n text))

token_takes_by : (d : DialectMeaning) → IsLawful d → (text : List ℕ) (f : Token × List ℕ) → FindsBest (Spells d) ComesAfter text (Some f) → length f.1 < length text
token_takes_by d n text f b =
    let some = begins_some b.front (spelled_begins d n b.front f.1 f.0 b.spelled) in
    omega (arith, some, ap length b.whole, length-append b.front f.1)

pub token_takes : (d : DialectMeaning) → IsLawful d → (text : List ℕ) (f : Token × List ℕ) → token_by_kinds d text ≡ Some f → length f.1 < length text
token_takes d n text f e = token_takes_by d n text f (subst (FindsBest (Spells d) ComesAfter text) (sym (by_kinds d n text) ∙ e) (token_best d n text))

-- a hash
pub hash_kinds : (d : DialectMeaning) → IsLawful d → (cs : List ℕ) → token_by_kinds d (35 ∷ cs) ≡ or_else (error_at d (35 ∷ cs)) (Some (found Hash cs))
hash_kinds d n cs =
    plain_first d n 35 cs (mark_first 35 (mark_begins_none 35 (omega arith) refl))
    ∙ rw (no_number d 35 cs refl (not_decimal d n 35 refl refl), two_none 35 cs refl refl) (first (error_at d (35 ∷ cs)) refl)
  where
    first : (o : Option (Token × List ℕ)) → error_at d (35 ∷ cs) ≡ o → longer o (Some (found Hash cs)) ≡ or_else o (Some (found Hash cs))
    first None e = refl
    first (Some f) e = let short = error_takes d n (35 ∷ cs) f e in rw (le-leb (length f.1) (length cs) (omega (arith, short))) refl

-- the decimal separator
dot_starts_none : starts 46 ≡ false
unfolding ucd_derived
dot_starts_none = refl

decimal_apart : (d : DialectMeaning) → IsLawful d → (cs : List ℕ) → (starts d.decimal ≡ false) × ((d.decimal == 34) ≡ false) × ((d.decimal == 35) ≡ false) × (two_at (d.decimal ∷ cs) ≡ None) × (one_at d (d.decimal ∷ cs) ≡ None)
decimal_apart d n cs =
    elim n.separators [
      | inl s ↦ (ap starts s.1 ∙ dot_starts_none, rw (s.1) refl, rw (s.1) refl, two_none d.decimal cs (rw (s.1) refl) (rw (s.1) refl), rw (s.0, s.1) refl)
      | inr s ↦ (ap starts s.1 ∙ mark_first 44 (mark_begins_none 44 (omega arith) refl), rw (s.1) refl, rw (s.1) refl, two_none d.decimal cs (rw (s.1) refl) (rw (s.1) refl), rw (s.0, s.1) refl)
    ]

pub decimal_kinds : (d : DialectMeaning) → IsLawful d → (c : ℕ) (cs : List ℕ) → c ≡ d.decimal → token_by_kinds d (c ∷ cs) ≡ number_in_one_pass d (c ∷ cs)
decimal_kinds d n c cs is = subst (λ x. token_by_kinds d (x ∷ cs) ≡ number_in_one_pass d (x ∷ cs)) (sym is) at_decimal
  where
    at_decimal : token_by_kinds d (d.decimal ∷ cs) ≡ number_in_one_pass d (d.decimal ∷ cs)
    at_decimal =
        let a = decimal_apart d n cs in
        plain_first d n d.decimal cs a.0 ∙ rw (a.1, no_error_first d n d.decimal cs a.2, a.3, a.4) (longer_none (number_in_one_pass d (d.decimal ∷ cs)))

-- a sign
pub sign_kinds : (d : DialectMeaning) → IsLawful d → (c : ℕ) (cs : List ℕ) → starts c ≡ false → (c ≡ d.decimal → ⊥) → (c ≡ 34 → ⊥) → (c ≡ 35 → ⊥)
    → token_by_kinds d (c ∷ cs) ≡ longer (two_at (c ∷ cs)) (one_at d (c ∷ cs))
sign_kinds d n c cs none decimal quote hash =
    let reference = (or_neither (begins_reference c) (begins_word c) none).0 in
    let a = or_neither (is_letter c || is_digit c) _ reference in
    let b = or_neither (is_letter c) (is_digit c) a.0 in
    plain_first d n c cs none ∙ rw (no_number d c cs b.1 (apart c d.decimal decimal), apart c 34 quote, no_error_first d n c cs (apart c 35 hash)) refl
  where
    apart : (c k : ℕ) → (c ≡ k → ⊥) → (c == k) ≡ false
    apart c k h = elim (eqb_tells c k) [ inl e ↦ absurd (h e.1) | inr e ↦ e.0 ]

-- the end
pub nothing_there : (d : DialectMeaning) → IsLawful d → token_by_kinds d [] ≡ None
nothing_there d n = elim (none_or_some (token_by_kinds d [])) [ inl p ↦ p | inr p ↦ absurd (omega (arith, token_takes d n [] p.0 p.1)) ]

-- a word, with its sheet or without, or a reference
pub named_kinds : (d : DialectMeaning) → IsLawful d → (c : ℕ) (cs : List ℕ) → starts c ≡ true → token_by_kinds d (c ∷ cs) ≡ longer (reference_at d (c ∷ cs)) (longer (local_at (c ∷ cs)) (named_at d (c ∷ cs)))
named_kinds d n c cs h = by_kinds d n (c ∷ cs) ∙ start_kinds d n c cs h

pub word_alone : (d : DialectMeaning) → IsLawful d → (text cs : List ℕ) (c : ℕ) → text ≡ c ∷ cs → begins_word c ≡ true → longer (head_at d text) (word_at d text) ≡ named_at d text
word_alone d n text cs c is begins =
    let none : number_in_one_pass d text ≡ None = ap (number_in_one_pass d) is ∙ word_no_number d n c cs begins in
    ap (longer (head_at d text)) (sym (longer_none (word_at d text)) ∙ ap (longer (word_at d text)) (sym none))

-- a reference that ends where the word does or later, where no bracket opens after the word
no_head : (d : DialectMeaning) (name after : List ℕ) → not (first_is (λ c. c == open_bracket) after) ≡ true → head_before d name after ≡ None
no_head d name [] h = refl
no_head d name (c ∷ cs) h = elim (cases_Bool (c == open_bracket)) [ inl p ↦ absurd (let no : false ≡ true = rw p at h in cc) | inr p ↦ rw p refl ]

no_longer_word : (f : Token × List ℕ) (rest : List ℕ) (w : Option Token) → nat_le (length f.1) (length rest) ≡ true → longer (Some f) (option_map (λ t. (t, rest)) w) ≡ Some f
no_longer_word f rest None h = refl
no_longer_word f rest (Some t) h = rw h refl

pub reference_over_word : (d : DialectMeaning) → IsLawful d → (text cs : List ℕ) (c : ℕ) (f : Token × List ℕ) → text ≡ c ∷ cs → begins_word c ≡ true → is_past_word text f.1 ≡ true → longer (Some f) (named_at d text) ≡ Some f
reference_over_word d n text cs c f is begins past =
    let parts = and_parts _ _ past in
    let first : first_is begins_word text ≡ true = ap (first_is begins_word) is ∙ begins in
    let head : head_at d text ≡ None = rw first (no_head d (run_of is_word_character text) (past_run is_blank (past_run is_word_character text)) parts.1) in
    let word : longer (Some f) (word_at d text) ≡ Some f =
    rw first (no_longer_word f (past_run is_word_character text) (boolean_or_word d (run_of is_word_character text) (d.find kinds.Boolean (run_of is_word_character text))) parts.0) in
    ap (longer (Some f)) (sym (word_alone d n text cs c is begins) ∙ ap (λ h. longer h (word_at d text)) head) ∙ word

-- what stands after a head, a word or a number ends the text
longer_from : (a b : Option (Token × List ℕ)) (f : Token × List ℕ) → longer a b ≡ Some f → (a ≡ Some f) ⊎ (b ≡ Some f)
longer_from None b f e = inr e
longer_from (Some x) None f e = inl e
longer_from (Some x) (Some y) f e =
    elim (cases_Bool (nat_le (length x.1) (length y.1))) [ inl p ↦ inl (rw p at e) | inr p ↦ inr (rw p at e) ]

number_ends : (d : DialectMeaning) → IsLawful d → (text : List ℕ) (f : Token × List ℕ) → number_in_one_pass d text ≡ Some f → EndsWith text f.1
number_ends d n text f e = by_best f (subst (FindsBest (OfKind is_number d) ComesAfter text) e (number_in_one_pass_best d n text))
  where
    by_best : (f : Token × List ℕ) → FindsBest (OfKind is_number d) ComesAfter text (Some f) → EndsWith text f.1
    by_best f b = (b.front, b.whole)

pub named_ends : (d : DialectMeaning) → IsLawful d → (text : List ℕ) (f : Token × List ℕ) → Some f ≡ named_at d text → EndsWith text f.1
named_ends d n text f e =
    elim (longer_from (head_at d text) _ f (sym e)) [
      | inl p ↦ let s = head_at_sound d text f.1 f.0 p in (s.0, s.1)
      | inr q ↦ elim (longer_from (word_at d text) (number_in_one_pass d text) f q) [
        | inl p ↦ let s = word_at_sound d text f.1 f.0 p in (s.0, s.1)
        | inr p ↦ number_ends d n text f p
      ]
    ]

pub reference_ends : (d : DialectMeaning) → IsLawful d → (text rest : List ℕ) (r : RefToken) → Some (r, rest) ≡ d.read_ref text → EndsWith text rest
reference_ends d n text rest r e = let s = n.reference_front text rest r (sym e) in (s.0, s.2)
