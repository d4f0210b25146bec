-- The readers of signs: what is looked up in a table of texts.
use Rattle.std.proofs.Common.{◌≡◌, ℕ, List, [], ◌∷◌, ◌++◌, Bool, Option, Some, option_map, refl, sym, ◌∙◌, ap, subst, inl, inr, bytes_eq}
use Rattle.std.specs.List.{AllByRecursion}
use Rattle.std.proofs.lemmas.Bool.{cases_Bool}
use Rattle.std.proofs.lemmas.Bool.Decides.{eqb_tells}
use Rattle.std.proofs.lemmas.Slice.Eq.{bytes_eq-Decides}
use Rattle.ic_laws.specs.Dialect.{DialectMeaning, IsLawful}
use Rattle.ic_laws.specs.Token.{Token, Separator, Operator, At, Percent, Hash, Open, Close, OpenBrace, CloseBrace, Semicolon}
use Rattle.ic_laws.specs.declared.tree.BinarySign.TheVariants as signs
use Rattle.ic_laws.specs.TokenKinds.{OfKind, is_sign_of_two, is_sign_of_one, two_at, one_at, two_table, one_table}
use Rattle.ic_laws.specs.NextToken.{look_up, separators}
use Rattle.ic_laws.proofs.tokens.Splits.{none_some, mapped}

pub look_holds : (P : List ℕ → Token → Type 0) (table : List (List ℕ × Token)) (text : List ℕ) (v : Token) → AllByRecursion (λ (e : List ℕ × Token). P e.0 e.1) table → look_up table text ≡ Some v → P text v
look_holds P [] text v all e = absurd (cc)
look_holds P (x ∷ xs) text v all e =
    elim (cases_Bool (bytes_eq x.0 text)) [
      | inl p ↦ let some : ◌≡◌ {A = Option Token} (Some x.1) (Some v) = rw p at e in
          let same : x.1 ≡ v = cc in
          let Front : List ℕ → Type 0 = λ f. P f x.1 in
          let Wanted : Token → Type 0 = λ t. P text t in
          subst Wanted same (subst Front ((bytes_eq-Decides x.0 text).0 p) all.0)
      | inr p ↦ let more : look_up xs text ≡ Some v = rw p at e in look_holds P xs text v all.1 more
    ]

-- a token that was looked up, before what is left
looked : (d : DialectMeaning) (kind : Token → Bool) (table : List (List ℕ × Token)) (front rest after : List ℕ) (v : Token)
    → AllByRecursion (λ (e : List ℕ × Token). OfKind kind d e.1 e.0 after) table → option_map {U = Token × List ℕ} (λ t. (t, rest)) (look_up table front) ≡ Some (v, after) → (rest ≡ after) × OfKind kind d v front after
looked d kind table front rest after v all e =
    let p = mapped (λ (t : Token). (t, rest)) (look_up table front) (v, after) e in
    let token : p.0 ≡ v = ap (λ (f : Token × List ℕ). f.0) p.2 in
    let Wanted : Token → Type 0 = λ t. OfKind kind d t front after in
    (ap (λ (f : Token × List ℕ). f.1) p.2, subst Wanted token (look_holds (λ f t. OfKind kind d t f after) table front p.0 all p.1))

pub two_sound : (d : DialectMeaning) (text rest : List ℕ) (v : Token) → two_at text ≡ Some (v, rest) → (front : List ℕ) × (text ≡ front ++ rest) × OfKind is_sign_of_two d v front rest
two_sound d [] rest v e = absurd (none_some (v, rest) e)
two_sound d (c ∷ []) rest v e = absurd (none_some (v, rest) e)
two_sound d (c ∷ x ∷ cs) rest v e =
    let p = looked d is_sign_of_two two_table (c ∷ x ∷ []) cs rest v ((refl, refl), ((refl, refl), ((refl, refl), tt))) e in
    (c ∷ x ∷ [], ap (λ r. c ∷ x ∷ r) p.0, p.1)

pub two_complete : (d : DialectMeaning) (front rest : List ℕ) (v : Token) → OfKind is_sign_of_two d v front rest → two_at (front ++ rest) ≡ Some (v, rest)
two_complete d front rest (Operator signs.Unequal) s = ap (λ f. two_at (f ++ rest)) s.1
two_complete d front rest (Operator signs.AtMost) s = ap (λ f. two_at (f ++ rest)) s.1
two_complete d front rest (Operator signs.AtLeast) s = ap (λ f. two_at (f ++ rest)) s.1
two_complete d front rest v s = absurd (cc)

one_separators : (d : DialectMeaning) (rest : List ℕ) → AllByRecursion (λ (e : List ℕ × Token). OfKind is_sign_of_one d e.1 e.0 rest) (separators d.list)
one_separators d rest =
    elim (eqb_tells d.list 59) [
      | inl e ↦ rw (e.0) ((refl, ap (λ x. x ∷ []) (sym e.1)), tt)
      | inr e ↦ rw (e.0) ((refl, refl), ((refl, (e.1, refl)), tt))
    ]

pub one_sound : (d : DialectMeaning) (text rest : List ℕ) (v : Token) → one_at d text ≡ Some (v, rest) → (front : List ℕ) × (text ≡ front ++ rest) × OfKind is_sign_of_one d v front rest
one_sound d [] rest v e = absurd (none_some (v, rest) e)
one_sound d (c ∷ cs) rest v e =
    let p = looked d is_sign_of_one (one_table d.list) (c ∷ []) cs rest v ((refl, refl), ((refl, refl), ((refl, refl), ((refl, refl), ((refl, refl), ((refl, refl), ((refl, refl), ((refl, refl), ((refl, refl), ((refl, refl), ((refl, refl), ((refl, refl), ((refl, refl), ((refl, refl), ((refl, refl), ((refl, refl), one_separators d rest)))))))))))))))) e in
    (c ∷ [], ap (λ r. c ∷ r) p.0, p.1)

pub one_separator : (d : DialectMeaning) → IsLawful d → (rest : List ℕ) → one_at d (d.list ∷ rest) ≡ Some (Separator, rest)
one_separator d n rest = elim n.separators [ inl s ↦ rw (s.0) refl | inr s ↦ rw (s.0) refl ]

pub one_semicolon : (d : DialectMeaning) → IsLawful d → (rest : List ℕ) → (d.list ≡ 59 → ⊥) → one_at d (59 ∷ rest) ≡ Some (Semicolon, rest)
one_semicolon d n rest other = elim n.separators [ inl s ↦ rw (s.0) refl | inr s ↦ absurd (other s.0) ]

pub one_complete : (d : DialectMeaning) → IsLawful d → (front rest : List ℕ) (v : Token) → OfKind is_sign_of_one d v front rest → one_at d (front ++ rest) ≡ Some (v, rest)
one_complete d n front rest (Operator signs.Unequal) s = absurd (cc)
one_complete d n front rest (Operator signs.AtMost) s = absurd (cc)
one_complete d n front rest (Operator signs.AtLeast) s = absurd (cc)
one_complete d n front rest (Operator sign) s = ap (λ f. one_at d (f ++ rest)) s.1
one_complete d n front rest Separator s = ap (λ f. one_at d (f ++ rest)) s.1 ∙ one_separator d n rest
one_complete d n front rest At s = ap (λ f. one_at d (f ++ rest)) s.1
one_complete d n front rest Percent s = ap (λ f. one_at d (f ++ rest)) s.1
one_complete d n front rest Hash s = ap (λ f. one_at d (f ++ rest)) s.1
one_complete d n front rest Open s = ap (λ f. one_at d (f ++ rest)) s.1
one_complete d n front rest Close s = ap (λ f. one_at d (f ++ rest)) s.1
one_complete d n front rest OpenBrace s = ap (λ f. one_at d (f ++ rest)) s.1
one_complete d n front rest CloseBrace s = ap (λ f. one_at d (f ++ rest)) s.1
one_complete d n front rest Semicolon s = ap (λ f. one_at d (f ++ rest)) s.1.1 ∙ one_semicolon d n rest s.1.0
one_complete d n front rest v s = absurd (cc)
