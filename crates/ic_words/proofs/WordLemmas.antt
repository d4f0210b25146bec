-- The first word of a line, and words with an escape and without.
use Rattle.std.proofs.Common.{◌≡◌, ◌≢◌, ℕ, ◌+◌, List, [], ◌∷◌, ◌==◌, length, map, take, drop, get_or, false, Option, None, Some, Bor, chars, IsUtf8, All, option_map, refl, ap, sym, ◌∙◌, arith}
use Rattle.std.specs.List.{list_any, slice_split}
use Rattle.std.specs.Str.{IsCharBoundary}
use Rattle.std.proofs.lemmas.Bool.{eqb-true, false_from_ne_true, or_right as either, or_parts as neither}
use Rattle.std.proofs.lemmas.List.Elements.{All-from_get_or}
use Rattle.std.proofs.lemmas.List.Splits.{length-slice_split, slice_split_at, slice_split_none}
use Rattle.std.proofs.lemmas.Str.{IsCharBoundary-after_ascii, IsUtf8-drop, encodes-chars, scalars-chars}
use Rattle.memchr.specs.Find.{IsFirstByte, is_byte}
use Rattle.ic_laws.specs.Lines.{unescaped, words_of}
use Rattle.ic_lines.proofs.TextLemmas.{byte-before, byte-cut}
use Rattle.ic_lines.proofs.WordLemmas.{pieces}
use Rattle.ic_words.specs.Words.{HaveEscape, has_escape, words_left}

-- a text can be cut after a tab
pub after_tab : (bytes : List ℕ) (tab : ℕ) → IsUtf8 bytes → IsFirstByte (is_byte 9) bytes (Some tab) → IsCharBoundary bytes (tab + 1)
after_tab bytes tab u found =
    IsCharBoundary-after_ascii bytes tab u found.0.high (omega (arith, eqb-true (get_or bytes tab 0) 9 found.1))

words_of-bytes : (bytes : List ℕ) → IsUtf8 bytes → words_of (chars bytes) ≡ map chars (slice_split (λ b. b == 9) bytes)
words_of-bytes bytes u =
    sym (pieces (chars bytes) (scalars-chars bytes u)) ∙ ap (λ b. map chars (slice_split (λ b. b == 9) b)) (encodes-chars bytes u)

-- a line without a tab is one word
pub lone_word : (bytes : List ℕ) → IsUtf8 bytes → IsFirstByte (is_byte 9) bytes None → words_of (chars bytes) ≡ chars bytes ∷ []
lone_word bytes u none =
    let no_tabs : All (λ b. (b == 9) ≡ false) bytes = All-from_get_or (λ b. (b == 9) ≡ false) bytes 0 (λ i within. false_from_ne_true (get_or bytes i 0 == 9) (none i (omega arith) within)) in
    words_of-bytes bytes u ∙ ap (map chars) (slice_split_none (λ b. b == 9) bytes no_tabs)

-- what stands before the first tab is a word, and the others stand after it
pub word_before : (bytes : List ℕ) (tab : ℕ) → IsUtf8 bytes → IsFirstByte (is_byte 9) bytes (Some tab) → words_of (chars bytes) ≡ chars (take tab bytes) ∷ words_of (chars (drop (tab + 1) bytes))
word_before bytes tab u found =
    let rest = drop (tab + 1) bytes in
    let no_tabs : All (λ b. (b == 9) ≡ false) (take tab bytes) = All-from_get_or (λ b. (b == 9) ≡ false) (take tab bytes) 0 (λ i within. byte-before 9 bytes tab i 0 found within) in
    words_of-bytes bytes u ∙ ap (λ b. map chars (slice_split (λ b. b == 9) b)) (byte-cut 9 bytes tab found)
    ∙ ap (map chars) (slice_split_at (λ b. b == 9) (take tab bytes) 9 rest no_tabs refl)
    ∙ ap (λ ws. chars (take tab bytes) ∷ ws) (sym (words_of-bytes rest (IsUtf8-drop bytes (tab + 1) u (after_tab bytes tab u found))))

-- where something is left there is a word
pub some_word : (left : Option (Bor (List ℕ))) (line : Bor (List ℕ)) → left ≡ Some line → length (words_left left) ≢ 0
some_word left line e none = omega (arith, none, ap length (ap words_left e), length-slice_split (λ c. c == 9) (chars line.now))

-- a word without an escape spells itself
pub spells_itself : (cs : List ℕ) → has_escape cs ≡ false → unescaped cs ≡ Some cs
spells_itself [] h = refl
spells_itself (c ∷ []) h = rw (neither (c == 92) false h).0 refl
spells_itself (c ∷ d ∷ cs) h =
    let n = neither (c == 92) (has_escape (d ∷ cs)) h in
    rw n.0 (ap (option_map (λ t. c ∷ t)) (spells_itself (d ∷ cs) n.1))

-- words after the first have an escape
pub escape_behind : {words more : List (List ℕ)} {a : List ℕ} → words ≡ a ∷ more → HaveEscape more → HaveEscape words
escape_behind {words} {more} {a} e h = ap (list_any has_escape) e ∙ either (has_escape a) (list_any has_escape more) h
