-- What is found at the first byte of a text, by its size in bytes, is what stands at its front.
use Rattle.std.proofs.Common.{◌≡◌, ◌≢◌, ℕ, ◌-◌, List, [], ◌∷◌, ◌++◌, true, length, drop, Option, Some, None, option_map, option_and_then, chars, encode_utf8_all, IsUtf8, refl, sym, ◌∙◌, ap, subst, inl, inr, arith}
use Rattle.std.specs.Str.{IsCharBoundary}
use Rattle.std.proofs.lemmas.Bool.{and_parts}
use Rattle.std.proofs.lemmas.List.{length-append}
use Rattle.std.proofs.lemmas.Str.{chars-encodes, encodes-append, encodes-chars, scalars-chars, IsCharBoundary-at_seam, IsCharBoundary-start}
use Rattle.std.proofs.Math.Seq.{drop-append_seam}
use lib.Utf8.{scalars, scalar}
use Rattle.ic_refs.proofs.OffsetLemmas.{boundary_true}
use Rattle.ic_laws.specs.Dialect.{DialectMeaning, IsLawful, FindsErrorAt, error_number}
use Rattle.ic_laws.specs.Longest.{read_at}
use Rattle.ic_laws.specs.NextToken.{all_errors, numbered}
use Rattle.ic_laws.specs.Token.{Token, Err}
use Rattle.ic_laws.specs.TokenKinds.{error_at, error_of, is_error}
use Rattle.ic_laws.specs.declared.dialect.WordKind.TheVariants as kinds
use Rattle.ic_laws.specs.declared.reference.RefToken.{RefToken}
use Rattle.ic_laws.specs.declared.tree.Error.{Error}
use Rattle.ic_laws.proofs.tokens.Kinds.{error_best, error_found}
use Rattle.ic_laws.proofs.tokens.Splits.{mapped, split_sound}
use Rattle.ic_laws.proofs.tokens.Words.{numbered_sound}
use Rattle.ic_laws.proofs.printing.Words.{same_kind}
use Rattle.ic_laws.proofs.parsing.ListFuelLemmas.{option_cases as none_or_some}

-- the end of a text of characters is one
scalars_rest : (front rest : List ℕ) → scalars (front ++ rest) ≡ true → scalars rest ≡ true
scalars_rest [] rest h = h
scalars_rest (c ∷ cs) rest h = scalars_rest cs rest ((and_parts (scalar c) (scalars (cs ++ rest)) h).1)

pub record IsCut (text : List ℕ) (rest : List ℕ) (size : ℕ) : Type 0 where
  pub boundary : IsCharBoundary text size
  pub after : chars (drop size text) ≡ rest

-- a text may be cut after its front
pub cut_after : (text front rest : List ℕ) → IsUtf8 text → chars text ≡ front ++ rest → IsCut text rest (length (encode_utf8_all front))
cut_after text front rest u e =
    let bytes : text ≡ encode_utf8_all front ++ encode_utf8_all rest = sym (encodes-chars text u) ∙ ap encode_utf8_all e ∙ encodes-append front rest in
    let valid : scalars rest ≡ true = scalars_rest front rest (ap scalars (sym e) ∙ scalars-chars text u) in
    record {
      boundary = IsCharBoundary-at_seam text (encode_utf8_all front) (encode_utf8_all rest) bytes (rest, (valid, refl));
      after = ap chars (ap (drop (length (encode_utf8_all front))) bytes ∙ drop-append_seam (encode_utf8_all front) (encode_utf8_all rest)) ∙ chars-encodes rest valid;
    }

-- what is read at the first byte is read at the front
pub reads_front : {T : Type 0} (reader : List ℕ → Option (T × List ℕ)) (text : List ℕ) → IsUtf8 text → read_at reader text 0 ≡ option_map (λ f. (f.0, length text - length (encode_utf8_all f.1))) (reader (chars text))
reads_front reader text u = rw (boundary_true text 0 (IsCharBoundary-start text u)) refl

-- the reference at the front, and where it ends
abbrev pub HasReference : DialectMeaning → List ℕ → Option (RefToken × ℕ) → Type 0
HasReference d text None = d.read_ref (chars text) ≡ None
HasReference d text (Some found) = IsCharBoundary text found.1 × (d.read_ref (chars text) ≡ Some (found.0, chars (drop found.1 text)))

abbrev sized : List ℕ → Option (RefToken × List ℕ) → Option (RefToken × ℕ)
sized text found = option_map (λ f. (f.0, length text - length (encode_utf8_all f.1))) found

pub reference_found : (d : DialectMeaning) → IsLawful d → (text : List ℕ) (found : Option (RefToken × ℕ)) → IsUtf8 text → found ≡ read_at d.read_ref text 0 → HasReference d text found
reference_found d n text found u e = subst (HasReference d text) (sym (e ∙ reads_front d.read_ref text u)) (go (d.read_ref (chars text)) refl)
  where
    go : (o : Option (RefToken × List ℕ)) → d.read_ref (chars text) ≡ o → HasReference d text (sized text o)
    go None e = e
    go (Some (r, rest)) e =
        let front = n.reference_front (chars text) rest r e in
        let cut = cut_after text front.0 rest u front.2 in
        let size : length text - length (encode_utf8_all rest) ≡ length (encode_utf8_all front.0) =
        omega (arith, ap length (sym (encodes-chars text u) ∙ ap encode_utf8_all front.2 ∙ encodes-append front.0 rest), length-append (encode_utf8_all front.0) (encode_utf8_all rest)) in (
          subst (IsCharBoundary text) (sym size) cut.boundary,
          e ∙ ap (λ x. Some (r, x)) (sym cut.after) ∙ ap (λ k. Some (r, chars (drop k text))) (sym size),
        )

-- the error word at the front, and where it ends
abbrev pub HasError : DialectMeaning → List ℕ → Option (Error × ℕ) → Type 0
HasError d text None = error_at d (chars text) ≡ None
HasError d text (Some found) = IsCharBoundary text found.1 × (error_at d (chars text) ≡ Some (Err found.0, chars (drop found.1 text)))

error_number_of : (found : Option ℕ) (t : Token) → option_and_then (λ n. option_map Err (numbered error_number all_errors n)) found ≡ Some t → (e : Error) × (found ≡ Some (error_number e))
error_number_of None t e = absurd (cc)
error_number_of (Some k) t e =
    let p = mapped Err (numbered error_number all_errors k) t e in
    (p.0, ap (λ n. Some n) (sym (numbered_sound error_number all_errors k p.0 p.1)))

no_error_word : (d : DialectMeaning) (text : List ℕ) → ((word rest : List ℕ) (e : Error) → text ≡ word ++ rest → d.find kinds.Error word ≢ Some (error_number e)) → error_at d text ≡ None
no_error_word d text none =
    elim (none_or_some (error_at d text)) [
      | inl p ↦ p
      | inr p ↦ let there = split_sound (error_of d) [] text p.0 p.1 in
          let q = error_number_of (d.find kinds.Error there.front_is) p.0.0 there.read_there in
          absurd (none there.front_is p.0.1 q.0 (sym there.whole) q.1)
    ]

pub error_word_found : (d : DialectMeaning) → IsLawful d → (text : List ℕ) (found : Option (Error × ℕ)) → IsUtf8 text → FindsErrorAt d text 0 found → HasError d text found
error_word_found d n text None u h = no_error_word d (chars text) (h (IsCharBoundary-start text u))
error_word_found d n text (Some (e, size)) u h =
    let at = h.1 in
    let best = error_found d n (chars text) at.0 at.1 e at.2 at.3 in
    let cut = cut_after text at.0 at.1 u at.2 in (
      subst (IsCharBoundary text) (sym at.4) cut.boundary,
      same_kind d is_error (chars text) at.1 (Err e) (error_at d (chars text)) (error_best d n (chars text)) best
          ∙ ap (λ x. Some (Err e, x)) (sym cut.after) ∙ ap (λ k. Some (Err e, chars (drop k text))) (sym at.4),
    )
