-- Bytes and the lines in them.
use Rattle.std.proofs.Common.{◌≡◌, ◌≢◌, ℕ, ◌+◌, List, [], ◌∷◌, ◌++◌, take, drop, get_or, Bool, true, false, cond, ◌==◌, Option, Some, None, MatchOption, MatchResult, Result, Ok, Err, Bor, Contains, chars, IsUtf8, ◌⊎◌, refl, sym, ◌∙◌, ap, inl, inr, arith, append_assoc, length-drop}
use Rattle.std.specs.List.{list_any, onto_first}
use Rattle.std.specs.Result.{result_unwrap_or}
use Rattle.std.specs.Str.{is_utf8}
use Rattle.std.proofs.Math.Seq.{take-add}
use Rattle.std.proofs.lemmas.Bool.{eq-eqb}
use Rattle.std.proofs.lemmas.Bool.Decides.{eqb_tells}
use Rattle.std.proofs.lemmas.List.{drop-drop, take-append-drop}
use Rattle.std.proofs.lemmas.List.Folds.{list_any-append, list_any_at, list_any_none}
use Rattle.std.proofs.lemmas.Str.{chars-nil, encodes-chars, is_utf8-from_IsUtf8, IsUtf8-from_is_utf8}
use Rattle.memchr.specs.Find.{IsFirstByte, is_byte}
use Rattle.ic_laws.specs.Lines.{line_text, lines_of}
use Rattle.ic_lines.specs.Reading.{has_line_feed, IsFirstLineFeed, without_return}
use Rattle.ic_lines.proofs.TextLemmas.{byte-before, byte-cut, byte-searched, line_feed-same}
use Rattle.ic_laws.proofs.printing.Signs.{or_neither as neither}

-- two pieces with no line feed
pub no_line_feed-append : (xs ys : List ℕ) → has_line_feed xs ≡ false → has_line_feed ys ≡ false → has_line_feed (xs ++ ys) ≡ false
no_line_feed-append xs ys h k = list_any-append (λ b. b == 10) xs ys ∙ rw (h, k) refl

-- what a byte in front does where no line feed stands after it
lines_of-onto : (b c : ℕ) (bs : List ℕ) → (b == 10) ≡ false → (c == 10) ≡ false → lines_of (b ∷ c ∷ bs) ≡ onto_first b (lines_of (c ∷ bs))
lines_of-onto b c bs h k = elim (eqb_tells b 13) [ inl p ↦ rw (h, k, p.0) refl | inr p ↦ rw (h, p.0) refl ]

-- a line with its line feed in front
pub lines_of-split : (piece rest : List ℕ) → has_line_feed piece ≡ false → lines_of (piece ++ 10 ∷ rest) ≡ without_return piece ∷ lines_of rest
lines_of-split [] rest h = refl
lines_of-split (b ∷ []) rest h =
    let n = neither (b == 10) false h in
    elim (eqb_tells b 13) [ inl p ↦ rw (n.0, p.0) refl | inr p ↦ rw (n.0, p.0) refl ]
lines_of-split (b ∷ c ∷ bs) rest h =
    let n = neither (b == 10) (has_line_feed (c ∷ bs)) h in
    let m = neither (c == 10) (has_line_feed bs) n.1 in
    lines_of-onto b c (bs ++ 10 ∷ rest) n.0 m.0 ∙ ap (onto_first b) (lines_of-split (c ∷ bs) rest n.1)

-- a last line
pub lines_of-last : (b : ℕ) (bs : List ℕ) → has_line_feed (b ∷ bs) ≡ false → lines_of (b ∷ bs) ≡ (b ∷ bs) ∷ []
lines_of-last b [] h = let n = neither (b == 10) false h in elim (eqb_tells b 13) [ inl p ↦ rw (n.0, p.0) refl | inr p ↦ rw (n.0, p.0) refl ]
lines_of-last b (c ∷ bs) h =
    let n = neither (b == 10) (has_line_feed (c ∷ bs)) h in
    let m = neither (c == 10) (has_line_feed bs) n.1 in
    lines_of-onto b c bs n.0 m.0 ∙ ap (onto_first b) (lines_of-last c bs n.1)

-- a carriage return at the end is left out
pub without_return-push : (front : List ℕ) (b : ℕ) → without_return (front ++ b ∷ []) ≡ cond (b == 13) front (front ++ b ∷ [])
without_return-push [] b = refl
without_return-push (c ∷ []) b = elim (eqb_tells b 13) [ inl p ↦ rw p.0 refl | inr p ↦ rw p.0 refl ]
without_return-push (c ∷ d ∷ front) b = ap (λ v. c ∷ v) (without_return-push (d ∷ front) b) ∙ elim (eqb_tells b 13) [ inl p ↦ rw p.0 refl | inr p ↦ rw p.0 refl ]

pub no_line_feed-without_return : (bytes : List ℕ) → has_line_feed bytes ≡ false → has_line_feed (without_return bytes) ≡ false
no_line_feed-without_return [] h = h
no_line_feed-without_return (b ∷ []) h = elim (eqb_tells b 13) [ inl p ↦ rw p.0 refl | inr p ↦ rw p.0 h ]
no_line_feed-without_return (b ∷ c ∷ bs) h =
    let n = neither (b == 10) (has_line_feed (c ∷ bs)) h in
    rw (n.0) (no_line_feed-without_return (c ∷ bs) n.1)

-- the text of a line
pub line_text_utf8 : (bytes : List ℕ) → IsUtf8 bytes → line_text bytes ≡ chars bytes
line_text_utf8 bytes u = rw (is_utf8-from_IsUtf8 bytes u) refl

tells : (b : Bool) → (b ≡ true) ⊎ (b ≡ false)
tells true = inl refl
tells false = inr refl

pub line_text_other : (bytes : List ℕ) → ¬ (IsUtf8 bytes) → line_text bytes ≡ []
line_text_other bytes n = elim (tells (is_utf8 bytes)) [ inl e ↦ absurd (n (IsUtf8-from_is_utf8 bytes e)) | inr e ↦ rw e refl ]

pub no_line_feed-line_text : (bytes : List ℕ) → has_line_feed bytes ≡ false → list_any (λ c. c == 10) (line_text bytes) ≡ false
no_line_feed-line_text bytes h =
    elim (tells (is_utf8 bytes)) [ inl e ↦ rw e (line_feed-same bytes (chars bytes) (sym (encodes-chars bytes (IsUtf8-from_is_utf8 bytes e))) ∙ h) | inr e ↦ rw e refl ]

-- the place of the first line feed, as a search finds it
pub found_from_search : (bytes : List ℕ) (r : Option ℕ) → IsFirstByte (is_byte 10) bytes r → MatchOption r (has_line_feed bytes ≡ false) (IsFirstLineFeed bytes)
found_from_search bytes None h = sym (byte-searched 10 bytes None h)
found_from_search bytes (Some n) h = record {
  within = h.0.high;
  parts = byte-cut 10 bytes n h;
  first = list_any_none (λ b. b == 10) (take n bytes) (λ k d l. byte-before 10 bytes n k d h l);
}

-- after a front with no line feed the first one of the rest is the first one
pub first_after : (held : List ℕ) (k place : ℕ) → has_line_feed (take k held) ≡ false → IsFirstLineFeed (drop k held) place → IsFirstLineFeed held (k + place)
first_after held k place h f =
    let e : take (k + place) held ≡ take k held ++ take place (drop k held) = take-add k place held in
    let m : k + (place + 1) ≡ k + place + 1 = omega arith in
    record {
      within = omega (arith, f.within, length-drop k held);
      parts = sym (take-append-drop k held) ∙ ap (λ v. take k held ++ v) f.parts
          ∙ sym (append_assoc (take k held) (take place (drop k held)) (10 ∷ drop (place + 1) (drop k held)))
          ∙ ap (λ v. v ++ 10 ∷ drop (place + 1) (drop k held)) (sym e)
          ∙ ap (λ v. take (k + place) held ++ 10 ∷ v) (drop-drop (place + 1) k held ∙ ap (λ m. drop m held) m);
      first = ap has_line_feed e ∙ no_line_feed-append (take k held) (take place (drop k held)) h f.first;
    }

-- and where the rest has none there is none
pub none_after : (held : List ℕ) (k : ℕ) → has_line_feed (take k held) ≡ false → has_line_feed (drop k held) ≡ false → has_line_feed held ≡ false
none_after held k h n = ap has_line_feed (sym (take-append-drop k held)) ∙ no_line_feed-append (take k held) (drop k held) h n

-- what is left of bytes with this one at their end
pub cut_at_return : (bytes front : List ℕ) (b : ℕ) → bytes ≡ front ++ b ∷ [] → b ≡ 13 → front ≡ without_return bytes
cut_at_return bytes front b e h = sym (ap without_return e ∙ without_return-push front b ∙ rw (eq-eqb b 13 h) refl)

pub kept_whole : (bytes front : List ℕ) (b : ℕ) → bytes ≡ front ++ b ∷ [] → b ≢ 13 → bytes ≡ without_return bytes
kept_whole bytes front b e n =
    elim (eqb_tells b 13) [ inl p ↦ absurd (n p.1) | inr p ↦ e ∙ sym (ap without_return e ∙ without_return-push front b ∙ rw p.0 refl) ]

-- the text of a line, as the code finds it
pub text_or_empty : {E : Type 0} (bytes : List ℕ) (r : Result (Bor (List ℕ)) E) (X : E → Type 0) (d : Bor (List ℕ)) → d.now ≡ [] → MatchResult r (λ s. (s.now ≡ bytes) × IsUtf8 bytes) (λ e. ¬ (IsUtf8 bytes) × X e)
    → chars (result_unwrap_or r d).now ≡ line_text bytes
text_or_empty bytes (Ok s) X d h m = ap chars m.0 ∙ sym (line_text_utf8 bytes m.1)
text_or_empty bytes (Err e) X d h m = ap chars h ∙ chars-nil ∙ sym (line_text_other bytes m.0)

-- a line feed is found where one is
pub no_line_feed-Contains : (bytes : List ℕ) → Contains bytes 10 → has_line_feed bytes ≡ false → ⊥
no_line_feed-Contains bytes c h = let e = sym (list_any_at (λ b. b == 10) bytes c.0 10 c.1 (eq-eqb (get_or bytes c.0 10) 10 c.2)) ∙ h in cc
