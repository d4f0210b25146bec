-- Texts without the blanks at both ends.
use Rattle.std.proofs.Common.{◌≡◌, ℕ, List, [], ◌∷◌, ◌++◌, true, false, reverse, refl, sym, ◌∙◌, ap, append_assoc}
use Rattle.std.specs.List.{list_all}
use Rattle.std.proofs.lemmas.Bool.{and_parts, and_from}
use Rattle.std.proofs.lemmas.List.{append-nil, append_cancel_right, reverse-append, reverse-reverse}
use Rattle.std.proofs.lemmas.List.Folds.{list_all-append}
use Rattle.ic_laws.specs.Scan.{is_blank, past_run}
use Rattle.ic_refs.specs.Trim.{EndsSoFar, EndsAt, IsTrimmed}

pub ends_first : (text : List ℕ) → EndsSoFar text text text
ends_first text = record { front = []; blanks = []; whole = refl; beyond = refl; trimmed = refl; blank = refl }

-- one more blank
pub ends_blank : (text end rest after : List ℕ) (c : ℕ) → EndsSoFar text end rest → rest ≡ c ∷ after → is_blank c ≡ true → EndsSoFar text end after
ends_blank text end rest after c s e b = record {
  front = s.front;
  blanks = s.blanks ++ c ∷ [];
  whole = s.whole;
  beyond = s.beyond ∙ ap (λ r. s.blanks ++ r) e ∙ sym (append_assoc s.blanks (c ∷ []) after);
  trimmed = s.trimmed;
  blank = list_all-append is_blank s.blanks (c ∷ []) ∙ and_from (list_all is_blank s.blanks) (list_all is_blank (c ∷ [])) s.blank (and_from (is_blank c) true b refl);
}

-- a character that is none at the end
ends_plain : (text : List ℕ) (c : ℕ) → is_blank c ≡ false → IsTrimmed (text ++ c ∷ [])
ends_plain text c b =
    let last : reverse (text ++ c ∷ []) ≡ c ∷ reverse text = reverse-append text (c ∷ []) in
    let stays : past_run is_blank (c ∷ reverse text) ≡ c ∷ reverse text = rw b refl in
    ap (past_run is_blank) last ∙ stays ∙ sym last

-- one more character that is none
pub ends_other : (text end rest after : List ℕ) (c : ℕ) → EndsSoFar text end rest → rest ≡ c ∷ after → is_blank c ≡ false → EndsSoFar text after after
ends_other text end rest after c s e b = record {
  front = (s.front ++ s.blanks) ++ c ∷ [];
  blanks = [];
  whole = s.whole ∙ ap (λ t. s.front ++ t) (s.beyond ∙ ap (λ r. s.blanks ++ r) e)
      ∙ sym (append_assoc s.front s.blanks (c ∷ after)) ∙ sym (append_assoc (s.front ++ s.blanks) (c ∷ []) after);
  beyond = refl;
  trimmed = ends_plain (s.front ++ s.blanks) c b;
  blank = refl;
}

-- blanks are passed
past_blanks : (bs rest : List ℕ) → list_all is_blank bs ≡ true → past_run is_blank (bs ++ rest) ≡ past_run is_blank rest
past_blanks [] rest h = refl
past_blanks (b ∷ bs) rest h = let parts = and_parts (is_blank b) (list_all is_blank bs) h in rw (parts.0) (past_blanks bs rest parts.1)

pub blanks_reverse : (bs : List ℕ) → list_all is_blank bs ≡ true → list_all is_blank (reverse bs) ≡ true
blanks_reverse [] h = refl
blanks_reverse (b ∷ bs) h =
    let parts = and_parts (is_blank b) (list_all is_blank bs) h in
    ap (list_all is_blank) (reverse-append (b ∷ []) bs) ∙ list_all-append is_blank (reverse bs) (b ∷ [])
    ∙ and_from (list_all is_blank (reverse bs)) (list_all is_blank (b ∷ [])) (blanks_reverse bs parts.1) (and_from (is_blank b) true parts.0 refl)

-- the front is the text without the blanks at its end
pub trimmed_front : (text end front : List ℕ) → EndsAt text end → text ≡ front ++ end → front ≡ reverse (past_run is_blank (reverse text))
trimmed_front text end front s e =
    let same : front ≡ s.front = append_cancel_right front s.front end (sym e ∙ s.whole) in
    let parts : text ≡ s.front ++ s.blanks = s.whole ∙ ap (λ t. s.front ++ t) (s.beyond ∙ append-nil s.blanks) in
    let past : past_run is_blank (reverse text) ≡ reverse s.front =
    ap (λ t. past_run is_blank (reverse t)) parts ∙ ap (past_run is_blank) (reverse-append s.front s.blanks)
    ∙ past_blanks (reverse s.blanks) (reverse s.front) (blanks_reverse s.blanks s.blank) ∙ s.trimmed in
    same ∙ sym (reverse-reverse s.front) ∙ ap reverse (sym past)
