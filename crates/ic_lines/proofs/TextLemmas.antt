-- Texts, their characters and their bytes.
use Rattle.std.proofs.Common.{◌≡◌, ℕ, ◌+◌, ◌<◌, ◌≤◌, List, [], ◌∷◌, ◌++◌, length, take, drop, get_or, Bool, false, ◌==◌, Option, Some, None, is_some, encode_utf8, encode_utf8_all, refl, sym, ◌∙◌, ap, inl, inr, arith}
use Rattle.std.specs.List.{list_any}
use Rattle.std.proofs.Math.Bool.{or-false}
use Rattle.std.proofs.lemmas.Bool.{eqb-true, false_from_ne_true}
use Rattle.std.proofs.lemmas.Bool.Decides.{eqb_tells, leb_tells}
use Rattle.std.proofs.lemmas.List.{append-nil, drop_more, get_or-take, get_or_default, length-take, take-append-drop}
use Rattle.std.proofs.lemmas.List.Folds.{list_any-append, list_any_at, list_any_none}
use Rattle.std.proofs.lemmas.Str.{encode_ascii, inside_one}
use Rattle.memchr.specs.Find.{IsFirstByte, is_byte}

-- a character that isn't ASCII has no ASCII byte
high_bytes : (c : ℕ) → 128 ≤ c → (k : ℕ) → k < length (encode_utf8 c) → 128 ≤ get_or (encode_utf8 c) k 0
high_bytes c h k l =
    elim (leb_tells 128 (get_or (encode_utf8 c) k 0)) [
      | inl p ↦ p.1
      | inr p ↦ let e : c ≡ get_or (encode_utf8 c) k 0 = inside_one c [] (encode_utf8 c) k (sym (append-nil (encode_utf8 c))) l p.1 in absurd (omega arith)
    ]

-- what a search for bytes finds: whether one stands there
pub searched : (test : ℕ → Bool) (bytes : List ℕ) (r : Option ℕ) → IsFirstByte test bytes r → is_some r ≡ list_any test bytes
searched test bytes None h = sym (list_any_none test bytes (λ k d l. rw (get_or_default bytes k d 0 l) (false_from_ne_true (test (get_or bytes k 0)) (h k (omega arith) l))))
searched test bytes (Some n) h = sym (list_any_at test bytes n 0 h.0.high h.1)

-- likewise for one byte
pub byte-searched : (a : ℕ) (bytes : List ℕ) (r : Option ℕ) → IsFirstByte (is_byte a) bytes r → is_some r ≡ list_any (λ b. b == a) bytes
byte-searched a = searched (is_byte a)

-- and what stands before its place and after it
pub byte-cut : (a : ℕ) (bytes : List ℕ) (n : ℕ) → IsFirstByte (is_byte a) bytes (Some n) → bytes ≡ take n bytes ++ a ∷ drop (n + 1) bytes
byte-cut a bytes n h = sym (take-append-drop n bytes) ∙ ap (λ v. take n bytes ++ v) (drop_more bytes n 0 h.0.high ∙ ap (λ b. b ∷ drop (n + 1) bytes) (eqb-true (get_or bytes n 0) a h.1))

pub byte-before : (a : ℕ) (bytes : List ℕ) (n k d : ℕ) → IsFirstByte (is_byte a) bytes (Some n) → k < length (take n bytes) → (get_or (take n bytes) k d == a) ≡ false
byte-before a bytes n k d h l =
    let near : k < n = omega (arith, l, length-take n bytes) in
    let inside : k < length bytes = omega (arith, near, h.0.high) in
    rw (get_or-take n bytes k d near, get_or_default bytes k d 0 inside) (false_from_ne_true (get_or bytes k 0 == a) (h.0.before k (omega arith) near))

-- a byte below 128 stands in a text where its character does
module _ (a : ℕ) (ascii : a < 128) where
  differs : (c : ℕ) → 128 ≤ c → (c == a) ≡ false
  differs c h = elim (eqb_tells c a) [ inl p ↦ absurd (omega (arith, p.1, ascii)) | inr p ↦ p.0 ]

  byte-encode : (c : ℕ) → list_any (λ b. b == a) (encode_utf8 c) ≡ (c == a)
  byte-encode c =
      elim (leb_tells 128 c) [
        | inl p ↦ rw (differs c p.1) (list_any_none (λ b. b == a) (encode_utf8 c) (λ k d l. rw (get_or_default (encode_utf8 c) k d 0 l) (differs (get_or (encode_utf8 c) k 0) (high_bytes c p.1 k l))))
        | inr p ↦ rw (encode_ascii c p.1) (or-false (c == a))
      ]

  byte-encode_all : (cs : List ℕ) → list_any (λ b. b == a) (encode_utf8_all cs) ≡ list_any (λ c. c == a) cs
  byte-encode_all [] = refl
  byte-encode_all (c ∷ cs) =
      list_any-append (λ b. b == a) (encode_utf8 c) (encode_utf8_all cs) ∙ rw (byte-encode c, byte-encode_all cs) refl

  -- the same where the bytes have another name
  pub byte-same : (bytes cs : List ℕ) → bytes ≡ encode_utf8_all cs → list_any (λ c. c == a) cs ≡ list_any (λ b. b == a) bytes
  byte-same bytes cs e = sym (byte-encode_all cs) ∙ ap (list_any (λ b. b == a)) (sym e)

-- a text has a line feed where its bytes have one
pub line_feed-same : (bytes cs : List ℕ) → bytes ≡ encode_utf8_all cs → list_any (λ c. c == 10) cs ≡ list_any (λ b. b == 10) bytes
line_feed-same = byte-same 10 (omega arith)
