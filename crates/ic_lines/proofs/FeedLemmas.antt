-- How many lines end with a line feed.
use Rattle.std.proofs.Common.{◌≡◌, ℕ, ◌+◌, ◌<◌, List, [], ◌∷◌, ◌++◌, length, true, false, ◌==◌, ◌&&◌, Option, Some, refl, sym, ◌∙◌, ap, inl, inr, arith, append_assoc, if◌then◌else◌}
use Rattle.std.specs.List.{onto_first}
use Rattle.std.proofs.lemmas.Bool.Decides.{eqb_tells}
use Rattle.std.proofs.lemmas.List.{length-map}
use Rattle.ic_laws.specs.Lines.{at_line_feed, line_text, lines_of, texts_of}
use Rattle.ic_lines.specs.Bytes.{IfTold}
use Rattle.ic_lines.specs.Reading.{GivesHeld, Reading, TakesLine, line_feeds, unread}
use Rattle.ic_lines.proofs.ToldLemmas.{IfTold-weaker}

pub line_feeds-append : (xs ys : List ℕ) → line_feeds (xs ++ ys) ≡ line_feeds xs + line_feeds ys
line_feeds-append [] ys = omega arith
line_feeds-append (x ∷ xs) ys =
    elim (eqb_tells x 10) [ inl p ↦ rw p.0 (omega (arith, line_feeds-append xs ys)) | inr p ↦ rw p.0 (line_feeds-append xs ys) ]

length-onto_first : (b : ℕ) (lines : List (List ℕ)) → 0 < length lines → length (onto_first b lines) ≡ length lines
length-onto_first b [] some = absurd (omega (arith, some))
length-onto_first b (line ∷ lines) some = refl

-- a byte that is no line feed begins no line more
same_length : (b : ℕ) (bytes : List ℕ) → (b == 10) ≡ false → 0 < length (lines_of bytes) → length (lines_of (b ∷ bytes)) ≡ length (lines_of bytes)
same_length b bytes other some =
    elim (b == 13 && at_line_feed bytes) as (λ t. length (if b == 10 then [] ∷ lines_of bytes else if t then lines_of bytes else onto_first b (lines_of bytes)) ≡ length (lines_of bytes)) [
      | true ↦ rw other refl
      | false ↦ rw other (length-onto_first b (lines_of bytes) some)
    ]

-- a line for each line feed, and one that a further line feed ends
length-lines_of : (bytes : List ℕ) → length (lines_of (bytes ++ 10 ∷ [])) ≡ line_feeds bytes + 1
length-lines_of [] = refl
length-lines_of (b ∷ bytes) =
    let rest = length-lines_of bytes in
    elim (eqb_tells b 10) [
      | inl p ↦ rw p.0 (omega (arith, rest))
      | inr p ↦ let some : 0 < length (lines_of (bytes ++ 10 ∷ [])) = omega (arith, rest) in
          same_length b (bytes ++ 10 ∷ []) p.0 some ∙ rest ∙ ap (λ t. (if t then line_feeds bytes + 1 else line_feeds bytes) + 1) (sym p.0)
    ]

length-texts_of : (bytes : List ℕ) → length (texts_of (bytes ++ 10 ∷ [])) ≡ line_feeds bytes + 1
length-texts_of bytes = length-map (lines_of (bytes ++ 10 ∷ [])) line_text ∙ length-lines_of bytes

-- a line that is given before the end takes one line feed
given_feed : (line : List ℕ) (old new : Reading) → GivesHeld (Some line) old new → old.ended ≡ false → line_feeds old.held ≡ 1 + line_feeds new.held
given_feed line old new g still =
    let one : List ℕ = 10 ∷ [] in
    let before : old.held ++ (if old.ended then [] else one) ≡ old.held ++ one = ap (λ e. old.held ++ (if e then [] else one)) still in
    let after : new.held ++ (if new.ended then [] else one) ≡ new.held ++ one = ap (λ e. new.held ++ (if e then [] else one)) (g.ended ∙ still) in
    let first : length (texts_of (unread old one)) ≡ length (line ∷ texts_of (unread new one)) = ap length (g.gives one) in
    omega (arith, first, ap (λ v. length (texts_of v)) before, ap (λ v. length (texts_of v)) after, length-texts_of old.held, length-texts_of new.held)

-- so of the line feeds that were to come one less is left
pub line_feeds-next : (line : List ℕ) (old asked new : Reading) (a b : Option (List ℕ)) → TakesLine old asked a b → GivesHeld (Some line) asked new → new.ended ≡ false
    → IfTold a b (λ x y. line_feeds (old.held ++ x) ≡ 1 + line_feeds (new.held ++ y))
line_feeds-next line old asked new a b t g still =
    let got : List ℕ = t.front ++ t.last in
    IfTold-weaker a b (λ x y. x ≡ got ++ y) (λ x y. line_feeds (old.held ++ x) ≡ 1 + line_feeds (new.held ++ y))
    (λ x y e.
    let all : line_feeds (old.held ++ x) ≡ line_feeds (asked.held ++ y) =
    ap (λ v. line_feeds (old.held ++ v)) e ∙ ap line_feeds (sym (append_assoc old.held got y)) ∙ ap (λ v. line_feeds (v ++ y)) (sym t.taken.held) in
    omega (arith, all, given_feed line asked new g (sym g.ended ∙ still), line_feeds-append asked.held y, line_feeds-append new.held y))
    t.taken.told
