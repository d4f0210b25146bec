-- Of two ends of one text the one with fewer characters has fewer bytes.
use Rattle.std.proofs.Common.{◌≡◌, ℕ, ◌+◌, ◌≤◌, List, [], ◌∷◌, ◌++◌, nat_le, length, IsUtf8, chars, encode_utf8_all, sym, ◌∙◌, ap, inl, inr, arith, append_assoc, length-append}
use Rattle.std.proofs.lemmas.Bool.{cases_Bool, le-leb, lt-leb, leb-true, leb-false}
use Rattle.std.proofs.lemmas.Str.{encodes-append, encodes-chars, length-le-encodes}
use Rattle.std.proofs.lemmas.List.{append_cancel_left}
use Rattle.ic_laws.specs.Scan.{EndsWith}
use Rattle.ic_laws.proofs.tokens.Splits.{front_in_front}

-- what stands after more of a text is shorter by all of it
after_more : (b d more : List ℕ) → b ≡ more ++ d → (length b ≡ length more + length d) × (length more + length (encode_utf8_all d) ≤ length (encode_utf8_all b))
after_more b d more e =
    let bytes : encode_utf8_all b ≡ encode_utf8_all more ++ encode_utf8_all d = ap encode_utf8_all e ∙ encodes-append more d in
    (ap length e ∙ length-append more d, omega (arith, ap length bytes, length-append (encode_utf8_all more) (encode_utf8_all d), length-le-encodes more))

no_more : (b d more : List ℕ) → b ≡ more ++ d → length b ≤ length d → b ≡ d
no_more b d [] e le = e
no_more b d (c ∷ cs) e le = absurd (omega (arith, le, ap length e, length-append (c ∷ cs) d))

by_more : (b d more : List ℕ) → b ≡ more ++ d → nat_le (length b) (length d) ≡ nat_le (length (encode_utf8_all b)) (length (encode_utf8_all d))
by_more b d more e =
    elim (cases_Bool (nat_le (length b) (length d))) [
      | inl p ↦ let same = no_more b d more e (leb-true (length b) (length d) p) in
          p ∙ sym (le-leb (length (encode_utf8_all b)) (length (encode_utf8_all d)) (omega (arith, ap length (ap encode_utf8_all same))))
      | inr n ↦ let parts = after_more b d more e in
          n ∙ sym (lt-leb (length (encode_utf8_all b)) (length (encode_utf8_all d)) (omega (arith, parts.0, parts.1, leb-false (length b) (length d) n)))
    ]

by_less : (b d more : List ℕ) → d ≡ more ++ b → nat_le (length b) (length d) ≡ nat_le (length (encode_utf8_all b)) (length (encode_utf8_all d))
by_less b d more e =
    let parts = after_more d b more e in
    le-leb (length b) (length d) (omega (arith, parts.0)) ∙ sym (le-leb (length (encode_utf8_all b)) (length (encode_utf8_all d)) (omega (arith, parts.1)))

pub ends_order : (text b d : List ℕ) → EndsWith text b → EndsWith text d → nat_le (length b) (length d) ≡ nat_le (length (encode_utf8_all b)) (length (encode_utf8_all d))
ends_order text b d p q =
    let f = front_in_front p.0 b q.0 d (sym p.1 ∙ q.1) in
    elim f.2 [
      | inl m ↦ by_more b d f.0 (cancelled p.0 b q.0 d f.0 (sym p.1 ∙ q.1) m)
      | inr m ↦ by_less b d f.1 (cancelled q.0 d p.0 b f.1 (sym q.1 ∙ p.1) m)
    ]
  where
    cancelled : (a b c d more : List ℕ) → a ++ b ≡ c ++ d → c ≡ a ++ more → b ≡ more ++ d
    cancelled a b c d more e m = append_cancel_left a b (more ++ d) (e ∙ ap (λ x. x ++ d) m ∙ append_assoc a more d)

-- the same of texts by their bytes
pub bytes_order : (text xs ys : List ℕ) → IsUtf8 xs → IsUtf8 ys → EndsWith text (chars xs) → EndsWith text (chars ys) → nat_le (length (chars xs)) (length (chars ys)) ≡ nat_le (length xs) (length ys)
bytes_order text xs ys u v p q =
    ends_order text (chars xs) (chars ys) p q
    ∙ ap (λ x. nat_le (length x) (length (encode_utf8_all (chars ys)))) (encodes-chars xs u) ∙ ap (λ y. nat_le (length xs) (length y)) (encodes-chars ys v)
