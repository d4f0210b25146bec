-- Bytes fall into lines as a relation and by the function.
use Rattle.std.proofs.Common.{◌≡◌, ◌↔◌, ℕ, List, [], ◌∷◌, ◌++◌, false, refl, sym, subst, ◌∙◌, ap, inl, inr, append_assoc}
use Rattle.std.proofs.lemmas.Bool.Decides.{eqb_tells}
use Rattle.std.proofs.lemmas.List.{append-nil}
use Rattle.ic_laws.specs.Lines.{FallsIntoLines, StandsBeforeFeed, lines_of}
use Rattle.ic_lines.specs.Reading.{has_line_feed, without_return}
use Rattle.ic_lines.proofs.LineLemmas.{lines_of-last, lines_of-split, no_line_feed-append, without_return-push}

-- nothing ends with a byte
no_end : (front : List ℕ) (b : ℕ) → ¬ ([] ≡ front ++ b ∷ [])
no_end [] b = λ e. cc
no_end (x ∷ front) b = λ e. cc

-- one byte ends with itself alone
one_end : (b c : ℕ) (front : List ℕ) → b ∷ [] ≡ front ++ c ∷ [] → b ≡ c
one_end b c [] e = cc
one_end b c (x ∷ front) e = let t : [] ≡ front ++ c ∷ [] = cc in absurd (no_end front c t)

-- a line that doesn't end with a carriage return stands as it is
kept_alone : (line : List ℕ) → ((front : List ℕ) → ¬ (line ≡ front ++ 13 ∷ [])) → without_return line ≡ line
kept_alone [] h = refl
kept_alone (b ∷ []) h = elim (eqb_tells b 13) [ inl p ↦ absurd (h [] (ap (λ c. c ∷ []) p.1)) | inr p ↦ rw p.0 refl ]
kept_alone (b ∷ c ∷ bs) h = ap (λ v. b ∷ v) (kept_alone (c ∷ bs) (λ front e. h (b ∷ front) (ap (λ v. b ∷ v) e)))

-- what stands before a line feed has one line
stands_alone : (piece line : List ℕ) → StandsBeforeFeed piece line → without_return piece ≡ line
stands_alone piece line (inl e) = ap without_return e ∙ without_return-push line 13
stands_alone piece line (inr p) = ap without_return p.0 ∙ kept_alone line p.1

-- a byte more in front of a line changes nothing at its end
longer : (b : ℕ) (line : List ℕ) (c : ℕ) (bs : List ℕ) → c ∷ bs ≡ line → ((front : List ℕ) → ¬ (line ≡ front ++ 13 ∷ [])) → (front : List ℕ) → ¬ (b ∷ line ≡ front ++ 13 ∷ [])
longer b line c bs some h [] = λ e. cc
longer b line c bs some h (x ∷ front) = λ e. let t : line ≡ front ++ 13 ∷ [] = cc in h front t

-- and it has that line
stands : (piece : List ℕ) → StandsBeforeFeed piece (without_return piece)
stands [] = inr (refl, λ front e. no_end front 13 e)
stands (b ∷ []) =
    elim (eqb_tells b 13) [
      | inl p ↦ rw p.0 (inl (ap (λ c. c ∷ []) p.1))
      | inr p ↦ rw p.0 (inr (refl, λ front e. p.1 (one_end b 13 front e)))
    ]
stands (b ∷ c ∷ bs) =
    elim (stands (c ∷ bs)) [
      | inl e ↦ inl (ap (λ v. b ∷ v) e)
      | inr p ↦ inr (ap (λ v. b ∷ v) p.0, longer b (without_return (c ∷ bs)) c bs p.0 p.1)
    ]

-- a last line
last : (line : List ℕ) → ¬ (line ≡ []) → has_line_feed line ≡ false → lines_of line ≡ line ∷ []
last [] some h = absurd (some refl)
last (b ∷ bs) some h = lines_of-last b bs h

answered : (bytes : List ℕ) (lines : List (List ℕ)) → FallsIntoLines bytes lines → lines_of bytes ≡ lines
answered bytes [] h = ap lines_of h
answered bytes (line ∷ lines) (inl f) =
    let first = f.1 in
    ap lines_of first.whole ∙ lines_of-split first.piece f.0 first.within ∙ ap (λ v. v ∷ lines_of f.0) (stands_alone first.piece line first.stands)
    ∙ ap (λ v. line ∷ v) (answered f.0 lines f.2)
answered bytes (line ∷ lines) (inr l) = ap lines_of l.same ∙ last line l.some l.within ∙ ap (λ v. line ∷ v) (sym l.alone)

falls_last : (bytes : List ℕ) → has_line_feed bytes ≡ false → FallsIntoLines bytes (lines_of bytes)
falls_last [] h = refl
falls_last (b ∷ bs) h =
    subst (FallsIntoLines (b ∷ bs)) (sym (lines_of-last b bs h)) (inr (record { within = h; some = λ e. cc; same = refl; alone = refl }))

-- after a piece without a line feed
falls_after : (bs piece : List ℕ) → has_line_feed piece ≡ false → FallsIntoLines (piece ++ bs) (lines_of (piece ++ bs))
falls_after [] piece h = subst (λ v. FallsIntoLines v (lines_of v)) (sym (append-nil piece)) (falls_last piece h)
falls_after (b ∷ bs) piece h =
    elim (eqb_tells b 10) [
      | inl p ↦ subst (λ c. FallsIntoLines (piece ++ c ∷ bs) (lines_of (piece ++ c ∷ bs))) (sym p.1)
          (subst (FallsIntoLines (piece ++ 10 ∷ bs)) (sym (lines_of-split piece bs h))
          (inl (bs, record { piece = piece; within = h; stands = stands piece; whole = refl }, falls_after bs [] refl)))
      | inr p ↦ subst (λ v. FallsIntoLines v (lines_of v)) (append_assoc piece (b ∷ []) bs)
          (falls_after bs (piece ++ b ∷ []) (no_line_feed-append piece (b ∷ []) h (rw p.0 refl)))
    ]

pub falls_as_answered : (bytes : List ℕ) (lines : List (List ℕ)) → FallsIntoLines bytes lines ↔ (lines_of bytes ≡ lines)
falls_as_answered bytes lines = (answered bytes lines, λ e. subst (FallsIntoLines bytes) e (falls_after bytes [] refl))
