-- The next token: the function answers just what the relation takes, so a text falls into tokens in one way at most.
use Rattle.std.proofs.Common.{if◌then◌else◌, ◌≡◌, ℕ, ◌≤◌, List, ◌++◌, true, false, ◌⊎◌, ◌<◌, length, Option, Some, None, option_and_then, refl, sym, ◌∙◌, ap, subst, inl, inr, arith, bytes_eq, length-append}
use Rattle.std.proofs.lemmas.Option.{cond_some}
use Rattle.std.proofs.lemmas.Slice.Eq.{bytes_eq-Decides}
use Rattle.ic_laws.specs.Dialect.{DialectMeaning, IsLawful}
use Rattle.ic_laws.specs.TokenKinds.{is_reference}
use Rattle.ic_laws.specs.Token.{Token, Ref, IsBefore, Spells, Takes}
use Rattle.ic_laws.specs.declared.reference.RefToken.{RefToken}
use Rattle.ic_laws.specs.Split.{IsBest, IsDecided, FindsBest}
use Rattle.ic_laws.specs.NextToken.{plain_of, reference_of, token_of, token_at}
use Rattle.ic_laws.proofs.tokens.Locals.{plain_sound, plain_complete}
use Rattle.ic_laws.proofs.tokens.Splits.{none_some, or_else_parts, split_best}
use Rattle.ic_laws.proofs.parsing.ListFuelLemmas.{option_cases as none_or_some}

-- of two of one length any token comes after a reference
abbrev pub ComesAfter : Token → Token → Type 0
ComesAfter t u = (is_reference t ≡ false) × (is_reference u ≡ true)

before_itself : (t : Token) → IsBefore t t
before_itself (Ref r) = tt
before_itself t = tt

reference_before : (t u : Token) → is_reference t ≡ true → IsBefore t u
reference_before (Ref r) u h = tt
reference_before t u h = absurd (cc)

none_before : (t u : Token) → is_reference t ≡ false → is_reference u ≡ true → IsBefore t u → ⊥
none_before (Ref s) u h k b = absurd (cc)
none_before t (Ref r) h k b = b
none_before t u h k b = absurd (cc)

-- references at a split
reference_found : (front rest : List ℕ) (read found : Option (RefToken × List ℕ)) (v : Token) → read ≡ found → option_and_then (λ (f : RefToken × List ℕ). if bytes_eq f.1 rest then Some (Ref f.0) else None) found ≡ Some v
    → (r : RefToken) × (read ≡ Some (r, rest)) × (Ref r ≡ v)
reference_found front rest read None v e h = absurd (cc)
reference_found front rest read (Some f) v e h =
    let p = cond_some (bytes_eq f.1 rest) (Ref f.0) v h in
    (f.0, e ∙ ap (λ r. Some (f.0, r)) ((bytes_eq-Decides f.1 rest).0 p.0), p.1)

reference_sound : (d : DialectMeaning) (front rest : List ℕ) (v : Token) → reference_of d front rest ≡ Some v → (r : RefToken) × (d.read_ref (front ++ rest) ≡ Some (r, rest)) × (Ref r ≡ v)
reference_sound d front rest v e = reference_found front rest (d.read_ref (front ++ rest)) (d.read_ref (front ++ rest)) v refl e

reference_complete : (d : DialectMeaning) (front rest : List ℕ) (r : RefToken) → d.read_ref (front ++ rest) ≡ Some (r, rest) → reference_of d front rest ≡ Some (Ref r)
reference_complete d front rest r e = rw (e, (bytes_eq-Decides rest rest).1 refl) refl

-- what a split spells is decided
split_sound : (d : DialectMeaning) (front rest : List ℕ) (v : Token) → token_of d front rest ≡ Some v → Spells d v front rest
split_sound d front rest v e =
    elim (or_else_parts (reference_of d front rest) (plain_of d front rest) v e) [
      | inl p ↦ let q = reference_sound d front rest v p in
          let Wanted : Token → Type 0 = λ t. Spells d t front rest in subst Wanted q.2 q.1
      | inr p ↦ plain_sound d front rest v p.1
    ]

abbrev IsAnswered : DialectMeaning → List ℕ → List ℕ → Token → Type 0
IsAnswered d front rest v = (w : Token) × (token_of d front rest ≡ Some w) × ((v ≡ w) ⊎ ComesAfter v w)

other_complete : (d : DialectMeaning) (n : IsLawful d) (front rest : List ℕ) (v : Token) → is_reference v ≡ false → Spells d v front rest → IsAnswered d front rest v
other_complete d n front rest v h s =
    let plain = plain_complete d n front rest v h s in
    elim (none_or_some (reference_of d front rest)) [
      | inl p ↦ (v, rw p plain, inl refl)
      | inr p ↦ let q = reference_sound d front rest p.0 p.1 in (p.0, rw (p.1) refl, inr (h, ap is_reference (sym q.2)))
    ]

split_complete : (d : DialectMeaning) (n : IsLawful d) (front rest : List ℕ) (v : Token) → Spells d v front rest → IsAnswered d front rest v
split_complete d n front rest (Ref r) s = (Ref r, rw (reference_complete d front rest r s) refl, inl refl)
split_complete d n front rest v s = other_complete d n front rest v refl s

pub token_decided : (d : DialectMeaning) → IsLawful d → IsDecided (Spells d) ComesAfter (token_of d)
token_decided d n = record { sound = split_sound d; complete = split_complete d n }

pub token_best : (d : DialectMeaning) → IsLawful d → (text : List ℕ) → FindsBest (Spells d) ComesAfter text (token_at d text)
token_best d n text = split_best (Spells d) ComesAfter (token_of d) text (token_decided d n)

-- the best is taken, and what is taken is the best
longest_by : (front rest other after : List ℕ) (v value : Token) → front ++ rest ≡ other ++ after → (length rest < length after) ⊎ ((after ≡ rest) × ((v ≡ value) ⊎ ComesAfter v value)) → length other ≤ length front
longest_by front rest other after v value e (inl short) = omega (arith, short, ap length e, length-append front rest, length-append other after)
longest_by front rest other after v value e (inr one) = omega (arith, ap length one.0, ap length e, length-append front rest, length-append other after)

first_by : (front rest other after : List ℕ) (v value : Token) → front ++ rest ≡ other ++ after → length other ≡ length front → (length rest < length after) ⊎ ((after ≡ rest) × ((v ≡ value) ⊎ ComesAfter v value)) → IsBefore value v
first_by front rest other after v value e len (inl short) = absurd (omega (arith, short, len, ap length e, length-append front rest, length-append other after))
first_by front rest other after v value e len (inr one) =
    elim one.1 [
      | inl same ↦ subst (λ t. IsBefore t v) same (before_itself v)
      | inr late ↦ reference_before value v late.1
    ]

pub best_taken : (d : DialectMeaning) (text rest : List ℕ) (token : Token) → IsBest (Spells d) ComesAfter text token rest → Takes d text token rest
best_taken d text rest token b = record {
  front = b.front;
  whole = b.whole;
  spelled = b.spelled;
  longest = λ other after t whole s. longest_by b.front rest other after t token (sym b.whole ∙ whole) (b.wins other after t whole s);
  first = λ other after t whole s len. first_by b.front rest other after t token (sym b.whole ∙ whole) len (b.wins other after t whole s);
}

taken_best : (d : DialectMeaning) (text rest : List ℕ) (token : Token) (found : Token × List ℕ) → Takes d text token rest → IsBest (Spells d) ComesAfter text found.0 found.1 → (token ≡ found.0) × (rest ≡ found.1)
taken_best d text rest token found t b =
    let lengths : length b.front ≤ length t.front = t.longest b.front found.1 found.0 b.whole b.spelled in
    elim (b.wins t.front rest token t.whole t.spelled) [
      | inl short ↦ absurd (omega (arith, short, lengths, ap length (sym t.whole ∙ b.whole), length-append t.front rest, length-append b.front found.1))
      | inr one ↦ (
        elim one.1 [
          | inl same ↦ same
          | inr late ↦ absurd (none_before token found.0 late.0 late.1 (t.first b.front found.1 found.0 b.whole b.spelled
              (omega (arith, ap length one.0, ap length (sym t.whole ∙ b.whole), length-append t.front rest, length-append b.front found.1))))
        ],
        one.0,
      )
    ]

sound_at : (d : DialectMeaning) (text rest : List ℕ) (token : Token) (found : Option (Token × List ℕ)) → FindsBest (Spells d) ComesAfter text found → found ≡ Some (token, rest) → Takes d text token rest
sound_at d text rest token None b e = absurd (none_some (token, rest) e)
sound_at d text rest token (Some found) b e =
    let same : found ≡ (token, rest) = cc in
    subst (λ (f : Token × List ℕ). Takes d text f.0 f.1) same (best_taken d text found.1 found.0 b)

complete_at : (d : DialectMeaning) (text rest : List ℕ) (token : Token) (found : Option (Token × List ℕ)) → FindsBest (Spells d) ComesAfter text found → Takes d text token rest → found ≡ Some (token, rest)
complete_at d text rest token None b t = absurd (b t.front rest token t.whole t.spelled)
complete_at d text rest token (Some found) b t =
    let same = taken_best d text rest token found t b in
    ap (λ x. Some (x, found.1)) (sym same.0) ∙ ap (λ r. Some (token, r)) (sym same.1)

-- the two laws
pub token_at_sound : (d : DialectMeaning) → IsLawful d → (text rest : List ℕ) (token : Token) → token_at d text ≡ Some (token, rest) → Takes d text token rest
token_at_sound d n text rest token e = sound_at d text rest token (token_at d text) (token_best d n text) e

pub token_at_complete : (d : DialectMeaning) → IsLawful d → (text rest : List ℕ) (token : Token) → Takes d text token rest → token_at d text ≡ Some (token, rest)
token_at_complete d n text rest token t = complete_at d text rest token (token_at d text) (token_best d n text) t

pub takes_unique : (d : DialectMeaning) → IsLawful d → (text rest after : List ℕ) (t u : Token) → Takes d text t rest → Takes d text u after → (t ≡ u) × (rest ≡ after)
takes_unique d n text rest after t u a b =
    let same : ◌≡◌ {A = Option (Token × List ℕ)} (Some (t, rest)) (Some (u, after)) = sym (token_at_complete d n text rest t a) ∙ token_at_complete d n text after u b in
    let parts : (t, rest) ≡ (u, after) = cc in
    (ap (λ (f : Token × List ℕ). f.0) parts, ap (λ (f : Token × List ℕ). f.1) parts)
