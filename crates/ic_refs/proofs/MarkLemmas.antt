-- Which characters a place has, and where it ends.
use Rattle.std.proofs.Common.{◌≡◌, ℕ, ℤ, ◌<◌, List, [], ◌∷◌, ◌++◌, Bool, true, false, not, ◌==◌, ◌||◌, length, None, refl, ◌∙◌, ap, arith, inl, inr, length-append}
use Rattle.std.specs.List.{list_all, list_any}
use Rattle.std.proofs.lemmas.Bool.{and_parts, and_from, or_left, or_right, or_parts, or_from, cases_Bool, agree_below, agree_below_at, both_ways}
use Rattle.std.proofs.lemmas.Bool.Decides.{eqb_tells, nat_tests}
use Rattle.std.proofs.lemmas.List.Folds.{list_all-append}
use Rattle.ucd_derived.proofs.Computing.{ucd_derived}
use Rattle.ic_laws.specs.Scan.{is_digit, is_plain, is_letter, is_word_character, first_is, past_run, is_ascii_letter, joins, IsEnd}
use Rattle.ic_laws.specs.Position.{letter_digit}
use Rattle.ic_laws.specs.declared.reference.Position.{Position}
use Rattle.ic_laws.specs.declared.reference.Position.TheVariants as at
use Rattle.ic_laws.specs.declared.reference.RefPart.{RefPart}
use Rattle.ic_laws.specs.declared.reference.Place.{Place}
use Rattle.ic_laws.specs.declared.reference.Place.TheVariants as places
use Rattle.ic_refs.specs.A1.{SpellsColumn, SpellsRow, SpellsCell, SpellsPlace, dollar_of}
use Rattle.ic_refs.specs.Digits.{digit_number}
use Rattle.ic_refs.proofs.A1NumberLemmas.{row_as_number, column_as_number, some_digits}
use Rattle.ic_refs.proofs.A1PositionLemmas.{SpellsCounted}
use Rattle.ic_laws.specs.SheetText.{sheet_at}
use Rattle.ic_refs.proofs.A1PlaceLemmas.{EndsPlace}
use Rattle.ic_laws.proofs.tokens.SheetTexts.{no_sheet_without_bang}
use Rattle.ic_laws.proofs.tokens.Locals.{end_no_bang}

-- an ASCII letter is a letter
letter_or_other : ℕ → Bool
letter_or_other c = not (is_ascii_letter c) || is_letter c

letters_agree : agree_below letter_or_other (λ _. true) 128 ≡ true
unfolding letter_or_other ucd_derived
letters_agree = refl

letter_small : (c : ℕ) → is_ascii_letter c ≡ true → c < 128
letter_small c h = grind (arith, nat_tests)

pub ascii_letter_plain : (c : ℕ) → is_ascii_letter c ≡ true → is_letter c ≡ true
unfolding letter_or_other
ascii_letter_plain c h =
    let e : letter_or_other c ≡ true = agree_below_at letter_or_other (λ _. true) 128 c letters_agree (letter_small c h) in
    rw h at e

-- what an end has not at its front
first_not : (p q : ℕ → Bool) (rest : List ℕ) → ((c : ℕ) → q c ≡ false → p c ≡ false) → first_is q rest ≡ false → first_is p rest ≡ false
first_not p q [] f h = refl
first_not p q (c ∷ cs) f h = f c h

joins_parts : (c : ℕ) → joins c ≡ false → (is_plain c ≡ false) × ((c == 33) ≡ false) × ((c == 58) ≡ false)
joins_parts c h =
    let a = or_parts (is_word_character c || c == 33 || c == 58 || c == 36) (c == 91) h in
    let b = or_parts (is_word_character c || c == 33 || c == 58) (c == 36) a.0 in
    let d = or_parts (is_word_character c || c == 33) (c == 58) b.0 in
    let e = or_parts (is_word_character c) (c == 33) d.0 in
    ((or_parts (is_plain c) (c == 92) e.0).0, e.1, d.1)

plain_parts : (c : ℕ) → is_plain c ≡ false → (is_letter c ≡ false) × (is_digit c ≡ false)
plain_parts c h =
    let a = or_parts (is_letter c || is_digit c || c == 95) (c == 46) h in
    let b = or_parts (is_letter c || is_digit c) (c == 95) a.0 in
    or_parts (is_letter c) (is_digit c) b.0

no_ascii_letter : (c : ℕ) → is_letter c ≡ false → is_ascii_letter c ≡ false
no_ascii_letter c h = elim (cases_Bool (is_ascii_letter c)) [ inl p ↦ absurd (both_ways (is_letter c) h (ascii_letter_plain c p)) | inr p ↦ p ]

pub end_of_place : (rest : List ℕ) → IsEnd rest → EndsPlace rest
end_of_place rest h = record {
  no_letter = first_not is_ascii_letter joins rest (λ c k. no_ascii_letter c (plain_parts c (joins_parts c k).0).0) h;
  no_digit = first_not is_digit joins rest (λ c k. (plain_parts c (joins_parts c k).0).1) h;
  no_colon = first_not (λ c. c == 58) joins rest (λ c k. (joins_parts c k).2) h;
}

-- the characters of a place: letters, digits, dollar signs and colons
abbrev pub is_place_character : ℕ → Bool
is_place_character c = is_ascii_letter c || is_digit c || c == 36 || c == 58

all_of : (p q : ℕ → Bool) (cs : List ℕ) → ((c : ℕ) → p c ≡ true → q c ≡ true) → list_all p cs ≡ true → list_all q cs ≡ true
all_of p q [] f h = refl
all_of p q (c ∷ cs) f h = let parts = and_parts (p c) (list_all p cs) h in and_from (q c) (list_all q cs) (f c parts.0) (all_of p q cs f parts.1)

letter_in_place : (c : ℕ) → is_ascii_letter c ≡ true → is_place_character c ≡ true
letter_in_place c h = rw h refl

digit_in_place : (c : ℕ) → is_digit c ≡ true → is_place_character c ≡ true
digit_in_place c h = or_left (is_ascii_letter c || is_digit c || c == 36) (c == 58) (or_left (is_ascii_letter c || is_digit c) (c == 36) (or_right (is_ascii_letter c) (is_digit c) h))

both_all : (a b : List ℕ) → list_all is_place_character a ≡ true → list_all is_place_character b ≡ true → list_all is_place_character (a ++ b) ≡ true
both_all a b h k = list_all-append is_place_character a b ∙ and_from (list_all is_place_character a) (list_all is_place_character b) h k

-- a text of such characters, at least one
pub record IsPlaceText (text : List ℕ) : Type 0 where
  pub some : 0 < length text
  pub all : list_all is_place_character text ≡ true

dollar_in_place : (position : Position) → list_all is_place_character (dollar_of position) ≡ true
dollar_in_place (at.Abs n) = refl
dollar_in_place (at.Rel k) = refl

number_text : (is : ℕ → Bool) (value : ℕ → ℕ) (base most : ℕ) (origin : ℤ) (text : List ℕ) (position : Position) → ((c : ℕ) → is c ≡ true → is_place_character c ≡ true)
    → SpellsCounted is value base most origin text position → IsPlaceText text
number_text is value base most origin text position f s = record {
  some = omega (arith, ap length s.whole, length-append (dollar_of position) s.digits, some_digits value base s.digits s.positive);
  all = ap (list_all is_place_character) s.whole ∙ both_all (dollar_of position) s.digits (dollar_in_place position) (all_of is is_place_character s.digits f s.all);
}

column_is_text : (column : ℤ) (text : List ℕ) (position : Position) → SpellsColumn column text position → IsPlaceText text
column_is_text column text position s = number_text is_ascii_letter letter_digit 26 16384 column text position letter_in_place (column_as_number column text position s)

row_is_text : (row : ℤ) (text : List ℕ) (position : Position) → SpellsRow row text position → IsPlaceText text
row_is_text row text position s = number_text is_digit digit_number 10 1048576 row text position digit_in_place (row_as_number row text position s)

joined_text : (text a b : List ℕ) → text ≡ a ++ b → IsPlaceText a → IsPlaceText b → IsPlaceText text
joined_text text a b e h k = record {
  some = omega (arith, ap length e, length-append a b, h.some);
  all = ap (list_all is_place_character) e ∙ both_all a b h.all k.all;
}

cell_is_text : (row column : ℤ) (text : List ℕ) (part : RefPart) → SpellsCell row column text part → IsPlaceText text
cell_is_text row column text part s =
    joined_text text s.column_text s.row_text s.whole (column_is_text column s.column_text part.column s.column) (row_is_text row s.row_text part.row s.row)

pair_is_text : (text a b : List ℕ) → text ≡ a ++ 58 ∷ b → IsPlaceText a → IsPlaceText b → IsPlaceText text
pair_is_text text a b e h k = joined_text text a (58 ∷ b) e h (record { some = omega arith; all = k.all })

pub place_is_text : (row column : ℤ) (text : List ℕ) (place : Place) → SpellsPlace row column text place → IsPlaceText text
place_is_text row column text (places.Cell part) s = cell_is_text row column text part s
place_is_text row column text (places.Range first last) s =
    elim s.3 [
      | inl p ↦ pair_is_text text s.0 s.1 s.2 (cell_is_text row column s.0 first p.0) (cell_is_text row column s.1 last p.1)
      | inr p ↦ elim p [
        | inl q ↦ pair_is_text text s.0 s.1 s.2 (column_is_text column s.0 first.column q.1) (column_is_text column s.1 last.column q.2)
        | inr q ↦ pair_is_text text s.0 s.1 s.2 (row_is_text row s.0 first.row q.1) (row_is_text row s.1 last.row q.2)
      ]
    ]

-- so it has no `!` and no quote
no_mark : (m : ℕ) (cs : List ℕ) → is_place_character m ≡ false → list_all is_place_character cs ≡ true → list_any (λ c. c == m) cs ≡ false
no_mark m [] n h = refl
no_mark m (c ∷ cs) n h =
    let parts = and_parts (is_place_character c) (list_all is_place_character cs) h in
    elim (eqb_tells c m) [
      | inl p ↦ absurd (both_ways (is_place_character c) (ap is_place_character p.1 ∙ n) parts.0)
      | inr p ↦ or_from (c == m) (list_any (λ c. c == m) cs) p.0 (no_mark m cs n parts.1)
    ]

pub place_no_bang : (row column : ℤ) (text : List ℕ) (place : Place) → SpellsPlace row column text place → list_any (λ c. c == 33) text ≡ false
place_no_bang row column text place s = no_mark 33 text refl (place_is_text row column text place s).all

-- and what follows it up to an end is no sheet's name
front_no_quote : (cs rest : List ℕ) → IsPlaceText cs → first_is (λ c. c == 39) (cs ++ rest) ≡ false
front_no_quote [] rest t = absurd (omega (arith, t.some))
front_no_quote (c ∷ cs) rest t =
    elim (eqb_tells c 39) [
      | inl p ↦ absurd (both_ways (is_place_character c) (ap is_place_character p.1) (and_parts (is_place_character c) (list_all is_place_character cs) t.all).0)
      | inr p ↦ p.0
    ]

run_no_bang : (cs rest : List ℕ) → list_all is_place_character cs ≡ true → IsEnd rest → first_is (λ c. c == 33) (past_run is_plain (cs ++ rest)) ≡ false
run_no_bang [] rest a h = end_no_bang rest h
run_no_bang (c ∷ cs) rest a h =
    let parts = and_parts (is_place_character c) (list_all is_place_character cs) a in
    elim (cases_Bool (is_plain c)) [
      | inl p ↦ rw p (run_no_bang cs rest parts.1 h)
      | inr p ↦ rw p (elim (eqb_tells c 33) [
        | inl q ↦ absurd (both_ways (is_place_character c) (ap is_place_character q.1) parts.0)
        | inr q ↦ q.0
      ])
    ]

pub place_no_sheet : (text rest : List ℕ) → IsPlaceText text → IsEnd rest → sheet_at (text ++ rest) ≡ None
place_no_sheet text rest t h = no_sheet_without_bang (text ++ rest) (front_no_quote text rest t) (run_no_bang text rest t.all h)
