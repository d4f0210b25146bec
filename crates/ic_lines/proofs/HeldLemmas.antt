-- The bytes that a reader holds, from its start on, and the lines that it gives of them.
use Rattle.std.proofs.Common.{◌≡◌, ℕ, ◌+◌, ◌-◌, ◌<◌, ◌≤◌, List, [], ◌∷◌, ◌++◌, length, take, drop, map, Bool, true, false, ◌==◌, nat_lt, Some, refl, sym, subst, ◌∙◌, ap, arith, inl, inr, append_assoc, length-append, if◌then◌else◌}
use Rattle.std.proofs.lemmas.Bool.{and_parts, cases_Bool, ltb-true, or_parts}
use Rattle.std.proofs.lemmas.Bool.Decides.{eqb_tells}
use Rattle.std.proofs.lemmas.List.{append-nil, drop-drop}
use Rattle.ic_laws.specs.Lines.{line_text, texts_of}
use Rattle.ic_lines.specs.Reading.{GivesHeld, IsFirstLineFeed, after_line_feed, before_line_feed, first_line, has_line_feed, holds_line, without_return}
use Rattle.ic_lines.proofs.LineLemmas.{first_after, lines_of-last, lines_of-split, no_line_feed-without_return, none_after}

-- the bytes after those that were looked through
module _ (items : List ℕ) (start scanned : ℕ) (order : start ≤ scanned) (none : has_line_feed (take (scanned - start) (drop start items)) ≡ false) where
  rest_is : drop (scanned - start) (drop start items) ≡ drop scanned items
  rest_is = let e : start + (scanned - start) ≡ scanned = omega arith in drop-drop (scanned - start) start items ∙ ap (λ n. drop n items) e

  pub held_first : (place : ℕ) → IsFirstLineFeed (drop scanned items) place → IsFirstLineFeed (drop start items) (scanned + place - start)
  held_first place f =
      let e : scanned - start + place ≡ scanned + place - start = omega arith in
      subst (IsFirstLineFeed (drop start items)) e
      (first_after (drop start items) (scanned - start) place none (subst (λ v. IsFirstLineFeed v place) (sym rest_is) f))

  pub held_none : has_line_feed (drop scanned items) ≡ false → has_line_feed (drop start items) ≡ false
  held_none h = none_after (drop start items) (scanned - start) none (ap has_line_feed rest_is ∙ h)

-- Where bytes part at their first line feed. ----

before_split : (piece rest : List ℕ) → has_line_feed piece ≡ false → before_line_feed (piece ++ 10 ∷ rest) ≡ piece
before_split [] rest h = refl
before_split (b ∷ piece) rest h = let n = or_parts (b == 10) (has_line_feed piece) h in rw (n.0) (ap (λ t. b ∷ t) (before_split piece rest n.1))

after_split : (piece rest : List ℕ) → has_line_feed piece ≡ false → after_line_feed (piece ++ 10 ∷ rest) ≡ rest
after_split [] rest h = refl
after_split (b ∷ piece) rest h = let n = or_parts (b == 10) (has_line_feed piece) h in rw (n.0) (after_split piece rest n.1)

some_split : (piece rest : List ℕ) → has_line_feed piece ≡ false → has_line_feed (piece ++ 10 ∷ rest) ≡ true
some_split [] rest h = refl
some_split (b ∷ piece) rest h = let n = or_parts (b == 10) (has_line_feed piece) h in rw (n.0) (some_split piece rest n.1)

first_split : (piece rest : List ℕ) → has_line_feed piece ≡ false → first_line (piece ++ 10 ∷ rest) ≡ without_return piece
first_split piece rest h = rw (some_split piece rest h) (ap without_return (before_split piece rest h))

-- by the place of the first line feed
pub first_is : (held : List ℕ) (n : ℕ) → IsFirstLineFeed held n → first_line held ≡ without_return (take n held)
first_is held n f = ap first_line f.parts ∙ first_split (take n held) (drop (n + 1) held) f.first

pub after_is : (held : List ℕ) (n : ℕ) → IsFirstLineFeed held n → after_line_feed held ≡ drop (n + 1) held
after_is held n f = ap after_line_feed f.parts ∙ after_split (take n held) (drop (n + 1) held) f.first

pub some_is : (held : List ℕ) (n : ℕ) → IsFirstLineFeed held n → has_line_feed held ≡ true
some_is held n f = ap has_line_feed f.parts ∙ some_split (take n held) (drop (n + 1) held) f.first

-- where there is none
pub first_none : (held : List ℕ) → has_line_feed held ≡ false → first_line held ≡ held
first_none held none = rw none refl

pub after_none : (held : List ℕ) → has_line_feed held ≡ false → after_line_feed held ≡ []
after_none [] none = refl
after_none (b ∷ held) none = let n = or_parts (b == 10) (has_line_feed held) none in rw (n.0) (after_none held n.1)

-- the parts make the whole
clean : (held : List ℕ) → has_line_feed (before_line_feed held) ≡ false
clean [] = refl
clean (b ∷ held) = elim (eqb_tells b 10) [ inl e ↦ rw (e.0) refl | inr e ↦ rw (e.0) (rw (e.0) (clean held)) ]

parts : (held : List ℕ) → has_line_feed held ≡ true → held ≡ before_line_feed held ++ 10 ∷ after_line_feed held
parts [] some = absurd (cc)
parts (b ∷ held) some =
    elim (eqb_tells b 10) [
      | inl e ↦ rw (e.0) (ap (λ x. x ∷ held) e.1)
      | inr e ↦ let more : has_line_feed held ≡ true = rw (e.0) at some in rw (e.0) (ap (λ t. b ∷ t) (parts held more))
    ]

pub clean_first : (held : List ℕ) → has_line_feed (first_line held) ≡ false
clean_first held =
    elim (cases_Bool (has_line_feed held)) [
      | inl some ↦ rw some (no_line_feed-without_return (before_line_feed held) (clean held))
      | inr none ↦ ap has_line_feed (first_none held none) ∙ none
    ]

-- What is given. ----

last_text : (held line : List ℕ) → 0 < length held → has_line_feed held ≡ false → line ≡ line_text held → texts_of held ≡ line ∷ []
last_text [] line some none is_line = absurd (omega arith)
last_text (b ∷ bs) line some none is_line = ap (map line_text) (lines_of-last b bs none) ∙ ap (λ l. l ∷ []) (sym is_line)

-- what is held is given as the last line
pub gives_last : (held now : List ℕ) (ended : Bool) (turns : ℕ) (line : List ℕ) → ended ≡ true → now ≡ [] → 0 < length held → has_line_feed held ≡ false → line ≡ line_text held
    → GivesHeld (Some line) (record { held = held; ended = ended; turns = turns }) (record { held = now; ended = ended; turns = turns })
gives_last held now ended turns line is_end e some none is_line = record {
  gives = λ left.
      let rest : (if ended then [] else left) ≡ [] = ap (λ b. if b then [] else left) is_end in
      ap texts_of (ap (λ v. held ++ v) rest ∙ append-nil held) ∙ last_text held line some none is_line
      ∙ ap (λ v. line ∷ texts_of v) (sym (ap (λ v. now ++ v) rest ∙ append-nil now ∙ e));
  ended = refl;
  turns = refl;
  fewer = λ s. omega (arith, some, ap length e);
}

-- what is held first is given as a line
pub gives_first : (held : List ℕ) (ended : Bool) (turns : ℕ) → holds_line (record { held = held; ended = ended; turns = turns }) ≡ true
    → GivesHeld (Some (line_text (first_line held))) (record { held = held; ended = ended; turns = turns }) (record { held = after_line_feed held; ended = ended; turns = turns })
gives_first held ended turns holds =
    elim (cases_Bool (has_line_feed held)) [
      | inl some ↦
          let before = before_line_feed held in
          let after = after_line_feed held in
          let whole = parts held some in
          record {
            gives = λ left.
                let rest : List ℕ = if ended then [] else left in
                ap texts_of (ap (λ v. v ++ rest) whole ∙ append_assoc before (10 ∷ after) rest) ∙ ap (map line_text) (lines_of-split before (after ++ rest) (clean held))
                ∙ ap (λ l. line_text l ∷ texts_of (after ++ rest)) (sym (rw some refl));
            ended = refl;
            turns = refl;
            fewer = λ s. omega (arith, ap length whole, length-append before (10 ∷ after));
          }
      | inr none ↦
          let last = and_parts ended (nat_lt 0 (length held)) (rw none at holds) in
          subst (λ (l : List ℕ). GivesHeld (Some (line_text l)) (record { held = held; ended = ended; turns = turns }) (record { held = after_line_feed held; ended = ended; turns = turns })) (sym (first_none held none))
          (gives_last held (after_line_feed held) ended turns (line_text held) last.0 (after_none held none) (ltb-true 0 (length held) last.1) none refl)
    ]
