-- What is read at a byte of a text.
use Rattle.std.proofs.Common.{◌≡◌, true, false, ◌&&◌, ◌||◌, ℕ, ◌-◌, ◌≤◌, ◌<◌, List, ◌++◌, length, drop, nat_le, nat_lt, Option, Some, None, option_map, chars, encode_utf8_all, IsUtf8, sym, ◌∙◌, ap, inl, inr, arith}
use Rattle.std.specs.List.{slice_index}
use Rattle.std.specs.Str.{IsCharBoundary}
use Rattle.std.proofs.lemmas.Bool.{both_ways, cases_Bool}
use Rattle.std.proofs.lemmas.Bool.Decides.{nat_tests}
use Rattle.std.proofs.lemmas.List.{length-append}
use Rattle.std.proofs.lemmas.Str.{encodes-append, encodes-chars, IsUtf8-drop}
use Rattle.ic_refs.specs.Longest.{FindsLongest, FindsLongestAt, is_char_boundary, read_at}

-- a text may be cut where the test says so
boundary_from : (at size byte : ℕ) → (nat_le at size && (nat_le size at || nat_lt byte 128 || nat_le 192 byte)) ≡ true → (at ≤ size) × (at < size → 128 ≤ byte → 192 ≤ byte)
boundary_from at size byte h = (grind (arith, nat_tests), λ l k. grind (arith, nat_tests))

boundary_to : (at size byte : ℕ) → at ≤ size → (at < size → 128 ≤ byte → 192 ≤ byte) → (nat_le at size && (nat_le size at || nat_lt byte 128 || nat_le 192 byte)) ≡ true
boundary_to at size byte h k = grind (arith, nat_tests)

pub boundary_holds : (text : List ℕ) (at : ℕ) → is_char_boundary text at ≡ true → IsCharBoundary text at
boundary_holds text at h = boundary_from at (length text) (slice_index text at) h

pub boundary_true : (text : List ℕ) (at : ℕ) → IsCharBoundary text at → is_char_boundary text at ≡ true
boundary_true text at h = boundary_to at (length text) (slice_index text at) h.0 h.1

pub boundary_false : (text : List ℕ) (at : ℕ) → (IsCharBoundary text at → ⊥) → is_char_boundary text at ≡ false
boundary_false text at h = elim (cases_Bool (is_char_boundary text at)) [ inl e ↦ absurd (h (boundary_holds text at e)) | inr e ↦ e ]

module _ {T : Type 0} (Spells : List ℕ → T → Type 0) (reader : List ℕ → Option (T × List ℕ)) (finds : (text : List ℕ) → FindsLongest Spells text (reader text)) where
  longest_from : (text : List ℕ) (at : ℕ) (found : Option (T × List ℕ)) → IsUtf8 text → IsCharBoundary text at → FindsLongest Spells (chars (drop at text)) found → FindsLongestAt Spells text at (option_map (λ (f : T × List ℕ). (f.0, length (drop at text) - length (encode_utf8_all f.1))) found)
  longest_from text at None u b h = λ _. h
  longest_from text at (Some (value, rest)) u b h =
      let bytes : drop at text ≡ encode_utf8_all h.front ++ encode_utf8_all rest =
      sym (encodes-chars (drop at text) (IsUtf8-drop text at u b)) ∙ ap encode_utf8_all h.whole ∙ encodes-append h.front rest in
      (b, (rest, h, omega (arith, ap length bytes, length-append (encode_utf8_all h.front) (encode_utf8_all rest))))

  -- A reader that finds the longest text at the front finds it at each byte.
  pub finds_at : (text : List ℕ) (at : ℕ) → IsUtf8 text → FindsLongestAt Spells text at (read_at reader text at)
  finds_at text at u = elim (cases_Bool (is_char_boundary text at)) [
    | inl e ↦ rw e (longest_from text at (reader (chars (drop at text))) u (boundary_holds text at e) (finds (chars (drop at text))))
    | inr e ↦ rw e (λ b. absurd (both_ways (is_char_boundary text at) e (boundary_true text at b)))
  ]
