-- A reply's bytes without the last are its text.
use Rattle.std.proofs.Common.{◌≡◌, ℕ, ◌-◌, ◌<◌, List, [], ◌∷◌, ◌++◌, length, take, get_or, false, chars, encode_utf8_all, ap, sym, ◌∙◌, arith, length-append}
use Rattle.std.proofs.Math.Seq.{get_or-append_seam}
use Rattle.std.proofs.lemmas.List.{take_at}
use Rattle.ic_lines.specs.Reading.{has_line_feed}
use Rattle.ic_words.specs.Reply.{IsLineText}

without_last : (front bytes : List ℕ) (len : ℕ) → bytes ≡ front ++ 10 ∷ [] → len ≡ length bytes → take (len - 1) bytes ≡ front
without_last front bytes len e l =
    let n : length front ≡ len - 1 = omega (arith, l, ap length e, length-append front (10 ∷ [])) in
    ap (take (len - 1)) e ∙ take_at front (10 ∷ []) (len - 1) n

pub some_byte : (front bytes : List ℕ) (len : ℕ) → bytes ≡ front ++ 10 ∷ [] → len ≡ length bytes → 0 < len
some_byte front bytes len e l = omega (arith, l, ap length e, length-append front (10 ∷ []))

-- the last byte is the line feed
pub last_byte : (front bytes : List ℕ) (len : ℕ) → bytes ≡ front ++ 10 ∷ [] → len ≡ length bytes → get_or bytes (len - 1) 0 < 128
last_byte front bytes len e l =
    let n : length front ≡ len - 1 = omega (arith, l, ap length e, length-append front (10 ∷ [])) in
    let at : get_or bytes (len - 1) 0 ≡ 10 = ap (λ v. get_or v (len - 1) 0) e ∙ ap (λ i. get_or (front ++ 10 ∷ []) i 0) (sym n) ∙ get_or-append_seam front 10 [] 0 in
    omega (arith, at)

-- a text with a line feed after it, whose last byte went
module _ (text : List ℕ) (bytes cut : List ℕ) (len : ℕ) (is_line : IsLineText text) (is_reply : bytes ≡ encode_utf8_all text ++ 10 ∷ []) (is_len : len ≡ length bytes) (is_cut : cut ≡ take (len - 1) bytes) where
  pub cut_reply : chars cut ≡ text
  cut_reply = ap chars (is_cut ∙ without_last (encode_utf8_all text) bytes len is_reply is_len) ∙ is_line.0

  pub cut_is_line : has_line_feed (chars cut) ≡ false
  cut_is_line = ap has_line_feed cut_reply ∙ is_line.1
