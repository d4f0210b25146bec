-- Texts between quotes: what is read is what is written.
use Rattle.std.proofs.Common.{if◌then◌else◌, ◌≡◌, ℕ, List, [], ◌∷◌, ◌++◌, Bool, true, false, ◌==◌, Option, Some, None, flat_map, refl, sym, ◌∙◌, ap, subst, inl, inr, option_map}
use Rattle.std.proofs.lemmas.Bool.Decides.{eqb_tells}
use Rattle.ic_laws.specs.NextToken.{push, unquoted}
use Rattle.ic_laws.proofs.tokens.Splits.{mapped, none_some}
use Rattle.ic_laws.specs.Scan.{first_is}
use Rattle.ic_laws.specs.Dialect.{DialectMeaning}
use Rattle.ic_laws.specs.Token.{Token, Str, is_double_quote}
use Rattle.ic_laws.specs.TokenKinds.{OfKind, is_text, closed, onto, text_at}

-- each quote doubled
abbrev pub doubled : List ℕ → List ℕ
doubled text = flat_map (λ c. if c == 34 then 34 ∷ 34 ∷ [] else c ∷ []) text

pub doubled_other : (c : ℕ) (text : List ℕ) → (c == 34) ≡ false → doubled (c ∷ text) ≡ c ∷ doubled text
doubled_other c text h = rw h refl

pub reads_doubled : (text : List ℕ) → unquoted false (doubled text ++ 34 ∷ []) ≡ Some text
reads_doubled [] = refl
reads_doubled (c ∷ cs) =
    elim (eqb_tells c 34) [
      | inl e ↦ ap (λ x. unquoted false (doubled (x ∷ cs) ++ 34 ∷ [])) e.1 ∙ ap (push 34) (reads_doubled cs) ∙ ap (λ x. Some (x ∷ cs)) (sym e.1)
      | inr e ↦ ap (λ t. unquoted false (t ++ 34 ∷ [])) (doubled_other c cs e.0) ∙ other_first c (doubled cs ++ 34 ∷ []) e.0 ∙ ap (push c) (reads_doubled cs)
    ]
  where
    other_first : (c : ℕ) (cs : List ℕ) → (c == 34) ≡ false → unquoted false (c ∷ cs) ≡ push c (unquoted false cs)
    other_first c cs h = rw h refl

-- what stands there, by whether one quote was passed already
abbrev IsWritten : Bool → List ℕ → List ℕ → Type 0
IsWritten true cs text = 34 ∷ cs ≡ doubled text ++ 34 ∷ []
IsWritten false cs text = cs ≡ doubled text ++ 34 ∷ []

pub doubled_read : (pending : Bool) (cs text : List ℕ) → unquoted pending cs ≡ Some text → IsWritten pending cs text
doubled_read true [] text e = let same : [] ≡ text = cc in subst (λ t. 34 ∷ [] ≡ doubled t ++ 34 ∷ []) same refl
doubled_read false [] text e = absurd (cc)
doubled_read true (c ∷ cs) text e =
    elim (eqb_tells c 34) [
      | inl p ↦ let more : push 34 (unquoted false cs) ≡ Some text = rw (p.0) at e in
          let q = mapped (λ t. 34 ∷ t) (unquoted false cs) text more in
          ap (λ x. 34 ∷ x ∷ cs) p.1 ∙ ap (λ t. 34 ∷ 34 ∷ t) (doubled_read false cs q.0 q.1) ∙ ap (λ t. doubled t ++ 34 ∷ []) q.2
      | inr p ↦ let no : ◌≡◌ {A = Option (List ℕ)} None (Some text) = rw (p.0) at e in absurd (none_some text no)
    ]
doubled_read false (c ∷ cs) text e =
    elim (eqb_tells c 34) [
      | inl p ↦ let more : unquoted true cs ≡ Some text = rw (p.0) at e in ap (λ x. x ∷ cs) p.1 ∙ doubled_read true cs text more
      | inr p ↦ let more : push c (unquoted false cs) ≡ Some text = rw (p.0) at e in
          let q = mapped (λ t. c ∷ t) (unquoted false cs) text more in
          ap (λ t. c ∷ t) (doubled_read false cs q.0 q.1) ∙ ap (λ t. t ++ 34 ∷ []) (sym (doubled_other c q.0 p.0)) ∙ ap (λ t. doubled t ++ 34 ∷ []) q.2
    ]

-- The reader of texts.
pub onto_closed : (c : ℕ) (o : Option (List ℕ × List ℕ)) (text rest : List ℕ) → o ≡ Some (text, rest) → onto c o ≡ Some (c ∷ text, rest)
onto_closed c o text rest e = rw e refl

pub closes : (rest : List ℕ) → first_is is_double_quote rest ≡ false → closed true rest ≡ Some ([], rest)
closes [] h = refl
closes (c ∷ cs) h = rw h refl

pub closed_other : (c : ℕ) (cs : List ℕ) → (c == 34) ≡ false → closed false (c ∷ cs) ≡ onto c (closed false cs)
closed_other c cs h = rw h refl

closed_complete : (text rest : List ℕ) → first_is is_double_quote rest ≡ false → closed false (doubled text ++ 34 ∷ [] ++ rest) ≡ Some (text, rest)
closed_complete [] rest h = closes rest h
closed_complete (c ∷ cs) rest h =
    elim (eqb_tells c 34) [
      | inl e ↦ ap (λ x. closed false (doubled (x ∷ cs) ++ 34 ∷ [] ++ rest)) e.1 ∙ onto_closed 34 (closed false (doubled cs ++ 34 ∷ [] ++ rest)) cs rest (closed_complete cs rest h) ∙ ap (λ x. Some (x ∷ cs, rest)) (sym e.1)
      | inr e ↦ ap (λ t. closed false (t ++ 34 ∷ [] ++ rest)) (doubled_other c cs e.0) ∙ closed_other c (doubled cs ++ 34 ∷ [] ++ rest) e.0
          ∙ onto_closed c (closed false (doubled cs ++ 34 ∷ [] ++ rest)) cs rest (closed_complete cs rest h)
    ]

abbrev IsClosed : Bool → List ℕ → List ℕ × List ℕ → Type 0
IsClosed true cs found = (34 ∷ cs ≡ doubled found.0 ++ 34 ∷ [] ++ found.1) × (first_is is_double_quote found.1 ≡ false)
IsClosed false cs found = (cs ≡ doubled found.0 ++ 34 ∷ [] ++ found.1) × (first_is is_double_quote found.1 ≡ false)

closed_sound : (pending : Bool) (cs : List ℕ) (found : List ℕ × List ℕ) → closed pending cs ≡ Some found → IsClosed pending cs found
closed_sound true [] found e =
    let same : ◌≡◌ {A = List ℕ × List ℕ} ([], []) found = cc in
    subst (IsClosed true []) same (refl, refl)
closed_sound false [] found e = absurd (none_some found e)
closed_sound true (c ∷ cs) found e =
    elim (eqb_tells c 34) [
      | inl p ↦ let more : onto 34 (closed false cs) ≡ Some found = rw (p.0) at e in
          let q = mapped (λ (f : List ℕ × List ℕ). (34 ∷ f.0, f.1)) (closed false cs) found more in
          let r = closed_sound false cs q.0 q.1 in
          subst (IsClosed true (c ∷ cs)) q.2 (ap (λ x. 34 ∷ x ∷ cs) p.1 ∙ ap (λ t. 34 ∷ 34 ∷ t) r.0, r.1)
      | inr p ↦ let here : ◌≡◌ {A = Option (List ℕ × List ℕ)} (Some ([], c ∷ cs)) (Some found) = rw (p.0) at e in
          let same : ◌≡◌ {A = List ℕ × List ℕ} ([], c ∷ cs) found = cc in
          subst (IsClosed true (c ∷ cs)) same (refl, p.0)
    ]
closed_sound false (c ∷ cs) found e =
    elim (eqb_tells c 34) [
      | inl p ↦ let more : closed true cs ≡ Some found = rw (p.0) at e in
          let r = closed_sound true cs found more in (ap (λ x. x ∷ cs) p.1 ∙ r.0, r.1)
      | inr p ↦ let more : onto c (closed false cs) ≡ Some found = rw (p.0) at e in
          let q = mapped (λ (f : List ℕ × List ℕ). (c ∷ f.0, f.1)) (closed false cs) found more in
          let r = closed_sound false cs q.0 q.1 in
          subst (IsClosed false (c ∷ cs)) q.2 (ap (λ t. c ∷ t) r.0 ∙ ap (λ t. t ++ 34 ∷ [] ++ q.0.1) (sym (doubled_other c q.0.0 p.0)), r.1)
    ]

pub text_sound : (d : DialectMeaning) (text rest : List ℕ) (v : Token) → text_at text ≡ Some (v, rest) → (front : List ℕ) × (text ≡ front ++ rest) × OfKind is_text d v front rest
text_sound d [] rest v e = absurd (none_some (v, rest) e)
text_sound d (c ∷ cs) rest v e =
    elim (eqb_tells c 34) [
      | inl p ↦ let more : option_map (λ (f : List ℕ × List ℕ). (Str f.0, f.1)) (closed false cs) ≡ Some (v, rest) = rw (p.0) at e in
          let q = mapped (λ (f : List ℕ × List ℕ). (Str f.0, f.1)) (closed false cs) (v, rest) more in
          let r = closed_sound false cs q.0 q.1 in
          let token : Str q.0.0 ≡ v = ap (λ (f : Token × List ℕ). f.0) q.2 in
          let after : q.0.1 ≡ rest = ap (λ (f : Token × List ℕ). f.1) q.2 in
          let Wanted : Token → Type 0 = λ t. OfKind is_text d t (34 ∷ (doubled q.0.0 ++ 34 ∷ [])) rest in (
            34 ∷ (doubled q.0.0 ++ 34 ∷ []),
            ap (λ x. x ∷ cs) p.1 ∙ ap (λ t. 34 ∷ t) r.0 ∙ ap (λ t. 34 ∷ (doubled q.0.0 ++ 34 ∷ [] ++ t)) after,
            subst Wanted token (refl, (refl, ap (first_is is_double_quote) (sym after) ∙ r.1)),
          )
      | inr p ↦ let no : ◌≡◌ {A = Option (Token × List ℕ)} None (Some (v, rest)) = rw (p.0) at e in absurd (none_some (v, rest) no)
    ]

pub text_complete : (d : DialectMeaning) (front rest : List ℕ) (v : Token) → OfKind is_text d v front rest → text_at (front ++ rest) ≡ Some (v, rest)
text_complete d front rest (Str text) s = ap (λ f. text_at (f ++ rest)) s.1.0 ∙ ap (option_map (λ (f : List ℕ × List ℕ). (Str f.0, f.1))) (closed_complete text rest s.1.1)
text_complete d front rest v s = absurd (cc)
