-- A line cut at its first tab, by its bytes and by its characters.
use Rattle.std.proofs.Common.{◌≡◌, ℕ, ◌+◌, ◌<◌, List, [], ◌∷◌, ◌++◌, ◌==◌, ◌||◌, Bool, true, false, cond, not, length, take, drop, Option, Some, None, is_some, unwrap_or, refl, sym, ap, ◌∙◌, arith, if◌then◌else◌}
use mathlib.Core.Bool.{or-true as either}
use lib.Utf8.{encode}
use Rattle.std.specs.Str.{IsUtf8, chars}
use Rattle.std.specs.List.{after_first, before_first, list_any, onto_first, position_or_len}
use Rattle.std.proofs.Math.Seq.{drop-append-add, take-append_seam}
use Rattle.std.proofs.lemmas.Bool.{eqb-true, or_parts as neither}
use Rattle.std.proofs.lemmas.List.Folds.{list_any-append, list_any_none}
use Rattle.std.proofs.lemmas.List.Splits.{slice_split-cons_no, slice_split_first}
use Rattle.std.proofs.lemmas.Str.{IsCharBoundary-before_ascii, IsUtf8-take, chars-append, encodes-chars}
use Rattle.memchr.specs.Find.{IsFirstByte, is_byte}
use Rattle.ic_laws.specs.Lines.{words_of}
use Rattle.ic_lines.proofs.TextLemmas.{byte-before, byte-cut, byte-same, byte-searched}
use Rattle.ic_share.specs.Users.{is_tab, parts_of}
use Rattle.ic_refs.proofs.R1C1SheetLemmas.{one_more}

-- the first tab stands behind what has none
first_tab : (xs ys : List ℕ) → list_any is_tab xs ≡ false → position_or_len is_tab (xs ++ 9 ∷ ys) ≡ length xs
first_tab [] ys e = refl
first_tab (x ∷ xs) ys e =
    let no = neither (is_tab x) (list_any is_tab xs) e in
    ap (λ (b : Bool). cond (not b) (1 + position_or_len is_tab (xs ++ 9 ∷ ys)) 0) no.0 ∙ ap (λ n. 1 + n) (first_tab xs ys no.1) ∙ one_more (length xs)

cut_at : (xs ys : List ℕ) → list_any is_tab xs ≡ false → parts_of (xs ++ 9 ∷ ys) ≡ Some (xs, ys)
cut_at xs ys e =
    let all = xs ++ 9 ∷ ys in
    ap (λ (b : Bool). if b then Some (take (position_or_len is_tab all) all, drop (position_or_len is_tab all + 1) all) else None) (list_any-append is_tab xs (9 ∷ ys) ∙ either (list_any is_tab xs))
    ∙ ap (λ n. Some (take n all, drop (n + 1) all)) (first_tab xs ys e)
    ∙ ap (λ (l : List ℕ). Some (l, drop (length xs + 1) all)) (take-append_seam xs (9 ∷ ys))
    ∙ ap (λ (l : List ℕ). Some (xs, l)) (drop-append-add xs (9 ∷ ys) 1)

tab_utf8 : IsUtf8 (9 ∷ [])
unfolding encode
tab_utf8 = (9 ∷ [], (refl, refl))

tab_chars : chars (9 ∷ []) ≡ 9 ∷ []
unfolding chars
tab_chars = refl

-- the characters of a text are cut where its bytes are
pub cut_chars : (bytes : List ℕ) (tab : ℕ) → IsUtf8 bytes → IsFirstByte (is_byte 9) bytes (Some tab) → parts_of (chars bytes) ≡ Some (chars (take tab bytes), chars (drop (tab + 1) bytes))
cut_chars bytes tab u found =
    let front = take tab bytes in
    let rest = drop (tab + 1) bytes in
    let is_front = IsUtf8-take bytes tab u (IsCharBoundary-before_ascii bytes tab found.0.high (omega (arith, eqb-true _ 9 found.1))) in
    let none = list_any_none (λ b. b == 9) front (λ k d within. byte-before 9 bytes tab k d found within) in
    ap (λ b. parts_of (chars b)) (byte-cut 9 bytes tab found)
    ∙ ap parts_of (chars-append front (9 ∷ rest) is_front ∙ ap (λ cs. chars front ++ cs) (chars-append (9 ∷ []) rest tab_utf8 ∙ ap (λ cs. cs ++ chars rest) tab_chars))
    ∙ cut_at (chars front) (chars rest) (byte-same 9 (omega arith) front (chars front) (sym (encodes-chars front is_front)) ∙ none)

-- and not at all where these have no tab
pub uncut_chars : (bytes : List ℕ) → IsUtf8 bytes → IsFirstByte (is_byte 9) bytes None → parts_of (chars bytes) ≡ None
uncut_chars bytes u none =
    ap (λ (b : Bool). if b then Some (take (position_or_len is_tab (chars bytes)) (chars bytes), drop (position_or_len is_tab (chars bytes) + 1) (chars bytes)) else None)
    (byte-same 9 (omega arith) bytes (chars bytes) (sym (encodes-chars bytes u)) ∙ sym (byte-searched 9 bytes None none))

-- The words of a line that is cut so. ----

within : (line : List ℕ) → list_any is_tab line ≡ true → position_or_len is_tab line < length line
within [] e = cc
within (c ∷ cs) e = by_first (is_tab c) e (λ some. within cs some)
  where
    by_first : (b : Bool) → (b || list_any is_tab cs) ≡ true → (list_any is_tab cs ≡ true → position_or_len is_tab cs < length cs) → cond (not b) (1 + position_or_len is_tab cs) 0 < length (c ∷ cs)
    by_first true e later = omega arith
    by_first false e later = omega (arith, later e)

lone : (line : List ℕ) → list_any is_tab line ≡ false → words_of line ≡ line ∷ []
lone [] e = refl
lone (c ∷ cs) e = let no = neither (is_tab c) (list_any is_tab cs) e in slice_split-cons_no is_tab c cs no.0 ∙ ap (onto_first c) (lone cs no.1)

abbrev cut_if : List ℕ → Bool → Option (List ℕ × List ℕ)
cut_if line b = if b then Some (before_first is_tab line, after_first is_tab line) else None

-- what stands before the tab is the first word, and the others stand behind it
pub words_cut : (line name rest : List ℕ) → Some (name, rest) ≡ parts_of line → words_of line ≡ name ∷ words_of rest
words_cut line name rest = by_tab (list_any is_tab line) refl
  where
    by_tab : (b : Bool) → list_any is_tab line ≡ b → Some (name, rest) ≡ cut_if line b → words_of line ≡ name ∷ words_of rest
    by_tab true some e = slice_split_first is_tab line 0 (within line some) ∙ ap (λ (p : List ℕ × List ℕ). p.0 ∷ words_of p.1) (sym (ap (λ o. unwrap_or o (name, rest)) e))
    by_tab false none e = absurd (let no : true ≡ false = ap is_some e in cc)

pub words_uncut : (line : List ℕ) → None ≡ parts_of line → words_of line ≡ line ∷ []
words_uncut line = by_tab (list_any is_tab line) refl
  where
    by_tab : (b : Bool) → list_any is_tab line ≡ b → None ≡ cut_if line b → words_of line ≡ line ∷ []
    by_tab true some e = absurd (let no : false ≡ true = ap is_some e in cc)
    by_tab false none e = lone line none
