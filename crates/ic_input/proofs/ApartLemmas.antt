-- Texts that their first bytes tell apart in any case.
use Rattle.std.proofs.Common.{◌≡◌, ℕ, ◌<◌, List, [], ◌∷◌, ◌++◌, Some, false, ◌==◌, IsUtf8, bytes_eq, chars, drop, slice_get, refl, sym, ap, ap₂, ◌∙◌}
use Rattle.std.proofs.lemmas.Str.{chars_past_char, encode_ascii}
use Rattle.std.specs.Char.{to_ascii_lowercase}
use Rattle.ic_laws.specs.Name.{agrees, fold}
use Rattle.ic_tables.proofs.CompareLemmas.{full_fold-ascii}
use Rattle.ic_laws.proofs.FoldLaws.{fold-cons}

-- a text whose first byte is ASCII folds to the lower case of it, and then as the rest of the text
low_first : (bytes : List ℕ) (b : ℕ) → IsUtf8 bytes → slice_get bytes 0 ≡ Some b → b < 128
    → fold (chars bytes) ≡ to_ascii_lowercase b ∷ fold (chars (drop 1 bytes))
low_first [] b utf8 e h = absurd (cc)
low_first (c ∷ rest) b utf8 e h =
    let same : c ≡ b = cc in
    let spelled = ap (λ x. x ∷ rest) same ∙ ap (λ front. front ++ rest) (sym (encode_ascii b h)) in
    ap fold (chars_past_char (c ∷ rest) rest b utf8 spelled) ∙ fold-cons b (chars rest) ∙ ap (λ t. t ++ fold (chars rest)) (full_fold-ascii b h)

pub apart_first : (word text : List ℕ) (a b : ℕ) → IsUtf8 word → IsUtf8 text → slice_get word 0 ≡ Some a → slice_get text 0 ≡ Some b → a < 128 → b < 128
    → (to_ascii_lowercase a == to_ascii_lowercase b) ≡ false → agrees (chars word) (chars text) ≡ false
apart_first word text a b u v is_a is_b h k e = ap₂ bytes_eq (low_first word a u is_a h) (low_first text b v is_b k) ∙ rw e refl
