-- The first line of bytes.
use Rattle.std.proofs.Common.{◌≡◌, ℕ, ◌+◌, ◌-◌, ◌<◌, List, [], ◌∷◌, length, take, drop, map, false, sym, ◌∙◌, ap, arith, length-drop}
use Rattle.std.proofs.lemmas.List.{drop_all, take_all}
use Rattle.ic_laws.specs.Lines.{line_text, texts_of}
use Rattle.ic_lines.specs.Reading.{IsFirstLineFeed, has_line_feed, without_return}
use Rattle.ic_lines.proofs.LineLemmas.{lines_of-last, lines_of-split}
use Rattle.ic_c.specs.Lines.{BeginsLine}

-- what is cut from a place on is all from there on
pub cut_rest : (bytes : List ℕ) (n : ℕ) → take (length bytes - n) (drop n bytes) ≡ drop n bytes
cut_rest bytes n = take_all (length bytes - n) (drop n bytes) (omega (arith, length-drop n bytes))

-- behind all nothing is left
pub cut_all : (bytes : List ℕ) → take (length bytes - length bytes) (drop (length bytes) bytes) ≡ []
cut_all bytes = cut_rest bytes (length bytes) ∙ drop_all (length bytes) bytes (omega arith)

-- a line that ends with a line feed
pub ends_with_feed : (bytes rest line : List ℕ) (n : ℕ) → IsFirstLineFeed bytes n → line ≡ line_text (without_return (take n bytes)) → rest ≡ drop (n + 1) bytes → BeginsLine bytes line rest
ends_with_feed bytes rest line n f is behind = record {
  lines = ap texts_of f.parts ∙ ap (map line_text) (lines_of-split (take n bytes) (drop (n + 1) bytes) f.first) ∙ ap (λ (l : List ℕ). l ∷ texts_of (drop (n + 1) bytes)) (sym is)
      ∙ ap (λ (r : List ℕ). line ∷ texts_of r) (sym behind);
  fewer = omega (arith, f.within, ap length behind, length-drop (n + 1) bytes);
}

-- one that ends with the bytes
pub ends_with_bytes : (bytes rest line : List ℕ) → 0 < length bytes → has_line_feed bytes ≡ false → line ≡ line_text bytes → rest ≡ [] → BeginsLine bytes line rest
ends_with_bytes [] rest line some none is behind = absurd (omega arith)
ends_with_bytes (b ∷ bs) rest line some none is behind = record {
  lines = ap (map line_text) (lines_of-last b bs none) ∙ ap (λ (l : List ℕ). l ∷ []) (sym is) ∙ ap (λ (r : List ℕ). line ∷ texts_of r) (sym behind);
  fewer = omega (arith, some, ap length behind);
}
