-- A text falls into tokens in one way at most: no token begins with a blank, and the next one is known.
use Rattle.std.proofs.Common.{Option, Some, None, ◌≡◌, ℕ, List, [], ◌∷◌, ◌++◌, true, false, length, refl, sym, ◌∙◌, ap, subst, inl, inr, arith, length-append, append-nil, zero, suc, ◌+◌, ◌<◌, ◌≤◌, option_map}
use Rattle.std.specs.List.{list_all}
use Rattle.std.proofs.lemmas.Bool.{cases_Bool}
use Rattle.std.proofs.lemmas.Bool.Decides.{eqb_tells}
use Rattle.ucd_derived.proofs.Computing.{ucd_derived}
use Rattle.ic_laws.specs.Scan.{first_is, is_blank, past_run, run_of}
use Rattle.ic_laws.specs.Dialect.{DialectMeaning, IsLawful, begins_reference}
use Rattle.ic_laws.specs.Token.{Token, Ref, Spells, Takes, Lexes}
use Rattle.ic_laws.specs.declared.reference.RefToken.{RefToken}
use Rattle.ic_laws.specs.NextToken.{after_token, bare_of, next_tokens, plain_of, token_at, tokens_by, tokens_of}
use Rattle.ic_laws.specs.SheetText.{read_local}
use Rattle.ic_laws.proofs.RunLemmas.{run_and_rest}
use Rattle.ic_laws.proofs.tokens.Characters.{all_of_run, past_run_all}
use Rattle.ic_laws.proofs.tokens.Next.{takes_unique, token_at_sound, token_at_complete}
use Rattle.ic_laws.proofs.tokens.Locals.{local_not_empty, plain_complete}
use Rattle.ic_laws.proofs.tokens.Splits.{mapped, none_some}

-- what holds of the four blanks holds of each blank
pub each_blank : (P : ℕ → Type 0) → P 32 → P 9 → P 10 → P 13 → (c : ℕ) → is_blank c ≡ true → P c
each_blank P a b x y c h =
    elim (eqb_tells c 32) [
      | inl e ↦ subst P (sym e.1) a
      | inr e ↦ elim (eqb_tells c 9) [
        | inl f ↦ subst P (sym f.1) b
        | inr f ↦ elim (eqb_tells c 10) [
          | inl g ↦ subst P (sym g.1) x
          | inr g ↦ elim (eqb_tells c 13) [
            | inl k ↦ subst P (sym k.1) y
            | inr k ↦ let no : false ≡ true = rw (e.0, f.0, g.0, k.0) at h in absurd (cc)
          ]
        ]
      ]
    ]

-- before a blank nothing is spelled
nothing_plain : (d : DialectMeaning) → IsLawful d → (cs rest : List ℕ) (c : ℕ) → is_blank c ≡ true → plain_of d (c ∷ cs) rest ≡ None
unfolding bare_of read_local ucd_derived
nothing_plain d n cs rest c h =
    let Wanted : ℕ → Type 0 = λ x. plain_of d (x ∷ cs) rest ≡ None in
    elim n.separators [
      | inl s ↦ each_blank Wanted (rw (s.0, s.1) refl) (rw (s.0, s.1) refl) (rw (s.0, s.1) refl) (rw (s.0, s.1) refl) c h
      | inr s ↦ each_blank Wanted (rw (s.0, s.1) refl) (rw (s.0, s.1) refl) (rw (s.0, s.1) refl) (rw (s.0, s.1) refl) c h
    ]

no_reference : (c : ℕ) → is_blank c ≡ true → begins_reference c ≡ false
unfolding ucd_derived
no_reference c h = let Wanted : ℕ → Type 0 = λ x. begins_reference x ≡ false in each_blank Wanted refl refl refl refl c h

-- what is spelled begins with a character that is no blank
abbrev pub Begins : List ℕ → Type 0
Begins [] = ⊥
Begins (c ∷ cs) = is_blank c ≡ false

plain_begins : (d : DialectMeaning) → IsLawful d → (front rest : List ℕ) (t : Token) → plain_of d front rest ≡ Some t → Begins front
unfolding bare_of
plain_begins d n [] rest t e = absurd (local_not_empty rest t e)
plain_begins d n (c ∷ cs) rest t e =
    elim (cases_Bool (is_blank c)) [ inl p ↦ absurd (none_some t (sym (nothing_plain d n cs rest c p) ∙ e)) | inr p ↦ p ]

reference_begins : (d : DialectMeaning) → IsLawful d → (front rest : List ℕ) (r : RefToken) → d.read_ref (front ++ rest) ≡ Some (r, rest) → Begins front
reference_begins d n [] rest r e =
    let p = n.reference_front rest rest r e in
    p.1 (empty p.0 (omega (arith, ap length p.2, length-append p.0 rest)))
  where
    empty : (xs : List ℕ) → length xs ≡ 0 → xs ≡ []
    empty [] h = refl
    empty (y ∷ ys) h = absurd (omega (arith, h))
reference_begins d n (c ∷ cs) rest r e =
    elim (cases_Bool (is_blank c)) [
      | inl p ↦ absurd (none_some (r, rest) (sym (n.reference_begins (c ∷ (cs ++ rest)) (no_reference c p)) ∙ e))
      | inr p ↦ p
    ]

pub spelled_begins : (d : DialectMeaning) → IsLawful d → (front rest : List ℕ) (t : Token) → Spells d t front rest → Begins front
spelled_begins d n front rest (Ref r) s = reference_begins d n front rest r s
spelled_begins d n front rest t s = plain_begins d n front rest t (plain_complete d n front rest t refl s)

front_begins : (front rest : List ℕ) → Begins front → (Begins (front ++ rest)) × (first_is is_blank (front ++ rest) ≡ false)
front_begins [] rest b = absurd b
front_begins (c ∷ cs) rest b = (b, b)

-- what stands after blanks before the next token
after_blanks : (d : DialectMeaning) → IsLawful d → (text blanks after rest : List ℕ) (t : Token) → list_all is_blank blanks ≡ true → text ≡ blanks ++ after → Takes d after t rest → (after ≡ past_run is_blank text) × Begins after
after_blanks d n text blanks after rest t all whole taken =
    let b = front_begins taken.front rest (spelled_begins d n taken.front rest t taken.spelled) in
    let stops : first_is is_blank after ≡ false = ap (first_is is_blank) taken.whole ∙ b.1 in
    (sym (ap (past_run is_blank) whole ∙ past_run_all is_blank blanks after all stops), subst Begins (sym taken.whole) b.0)

pub all_past : (text : List ℕ) → list_all is_blank text ≡ true → past_run is_blank text ≡ []
all_past text h = ap (past_run is_blank) (sym (append-nil text)) ∙ past_run_all is_blank text [] h refl

blank_or_not : (d : DialectMeaning) → IsLawful d → (text : List ℕ) (t : Token) (ts : List Token) → Lexes d text [] → Lexes d text (t ∷ ts) → ⊥
blank_or_not d n text t ts all l =
    let b = after_blanks d n text l.0 l.1 l.2 t l.3 l.4 l.5 in
    subst Begins (b.0 ∙ all_past text all) b.1

pub lexes_unique : (d : DialectMeaning) → IsLawful d → (text : List ℕ) (ts us : List Token) → Lexes d text ts → Lexes d text us → ts ≡ us
lexes_unique d n text [] [] a b = refl
lexes_unique d n text [] (u ∷ us) a b = absurd (blank_or_not d n text u us a b)
lexes_unique d n text (t ∷ ts) [] a b = absurd (blank_or_not d n text t ts b a)
lexes_unique d n text (t ∷ ts) (u ∷ us) a b =
    let same : a.1 ≡ b.1 = (after_blanks d n text a.0 a.1 a.2 t a.3 a.4 a.5).0 ∙ sym ((after_blanks d n text b.0 b.1 b.2 u b.3 b.4 b.5).0) in
    let one = takes_unique d n b.1 a.2 b.2 t u (subst (λ x. Takes d x t a.2) same a.5) b.5 in
    let others : ts ≡ us = lexes_unique d n b.2 ts us (subst (λ x. Lexes d x ts) one.1 a.6) b.6 in
    ap (λ x. x ∷ ts) one.0 ∙ ap (λ l. u ∷ l) others

-- the function that answers the tokens of a text
next_sound : (d : DialectMeaning) → IsLawful d → (more : List ℕ → Option (List Token)) (text after : List ℕ) (ts : List Token) → ((rest : List ℕ) (us : List Token) → more rest ≡ Some us → Lexes d rest us)
    → after ≡ past_run is_blank text → next_tokens more d after ≡ Some ts → Lexes d text ts
next_sound d n more text [] ts sound is e =
    let same : [] ≡ ts = cc in
    let whole : text ≡ run_of is_blank text = run_and_rest is_blank text ∙ ap (λ r. run_of is_blank text ++ r) (sym is) ∙ append-nil (run_of is_blank text) in
    subst (Lexes d text) same (ap (list_all is_blank) whole ∙ all_of_run is_blank text)
next_sound d n more text (c ∷ cs) ts sound is e = go (token_at d (c ∷ cs)) refl e
  where
    go : (found : Option (Token × List ℕ)) → token_at d (c ∷ cs) ≡ found → after_token more found ≡ Some ts → Lexes d text ts
    go None f e = absurd (none_some ts e)
    go (Some found) f e =
        let p = mapped (λ (us : List Token). found.0 ∷ us) (more found.1) ts e in
        subst (Lexes d text) p.2 (
          run_of is_blank text,
          c ∷ cs,
          found.1,
          all_of_run is_blank text,
          run_and_rest is_blank text ∙ ap (λ r. run_of is_blank text ++ r) (sym is),
          token_at_sound d n (c ∷ cs) found.1 found.0 f,
          sound found.1 p.0 p.1,
        )

pub tokens_by_sound : (d : DialectMeaning) → IsLawful d → (fuel : ℕ) (text : List ℕ) (ts : List Token) → tokens_by d fuel text ≡ Some ts → Lexes d text ts
unfolding tokens_by
tokens_by_sound d n zero text ts e = absurd (none_some ts e)
tokens_by_sound d n (suc fuel) text ts e = next_sound d n (tokens_by d fuel) text (past_run is_blank text) ts (λ rest us. tokens_by_sound d n fuel rest us) refl e

next_complete : (d : DialectMeaning) (more : List ℕ → Option (List Token)) (after rest : List ℕ) (t : Token) (ts : List Token) → Begins after → token_at d after ≡ Some (t, rest) → more rest ≡ Some ts → next_tokens more d after ≡ Some (t ∷ ts)
next_complete d more [] rest t ts b e f = absurd b
next_complete d more (c ∷ cs) rest t ts b e f = ap (after_token more) e ∙ ap (option_map (λ us. t ∷ us)) f

begins_some : (front : List ℕ) → Begins front → 1 ≤ length front
begins_some [] b = absurd b
begins_some (c ∷ cs) b = omega arith

pub tokens_by_complete : (d : DialectMeaning) → IsLawful d → (fuel : ℕ) (text : List ℕ) (ts : List Token) → length text < fuel → Lexes d text ts → tokens_by d fuel text ≡ Some ts
unfolding tokens_by
tokens_by_complete d n zero text ts lt l = absurd (omega (arith, lt))
tokens_by_complete d n (suc fuel) text [] lt l = ap (next_tokens (tokens_by d fuel) d) (all_past text l)
tokens_by_complete d n (suc fuel) text (t ∷ ts) lt l =
    let taken = l.5 in
    let b = after_blanks d n text l.0 l.1 l.2 t l.3 l.4 taken in
    let some = begins_some taken.front (spelled_begins d n taken.front l.2 t taken.spelled) in
    let small : length l.2 < fuel = omega (arith, lt, some, ap length l.4, length-append l.0 l.1, ap length taken.whole, length-append taken.front l.2) in
    ap (next_tokens (tokens_by d fuel) d) (sym b.0)
    ∙ next_complete d (tokens_by d fuel) l.1 l.2 t ts b.1 (token_at_complete d n l.1 l.2 t taken) (tokens_by_complete d n fuel l.2 ts small l.6)

-- a text has these tokens just where the function answers them
pub tokens_of_sound : (d : DialectMeaning) → IsLawful d → (text : List ℕ) (ts : List Token) → tokens_of d text ≡ Some ts → Lexes d text ts
tokens_of_sound d n text ts e = tokens_by_sound d n (length text + 1) text ts e

pub tokens_of_complete : (d : DialectMeaning) → IsLawful d → (text : List ℕ) (ts : List Token) → Lexes d text ts → tokens_of d text ≡ Some ts
tokens_of_complete d n text ts l = tokens_by_complete d n (length text + 1) text ts (omega arith) l
