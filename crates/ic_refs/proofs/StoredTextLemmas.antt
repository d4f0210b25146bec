-- The stored form: what is written spells the place, and so it is read back.
use Rattle.std.proofs.Common.{◌≡◌, ◌<◌, ℕ, ℤ, pos, negsuc, ◌^◌, List, [], ◌∷◌, ◌++◌, Bool, true, false, ◌||◌, length, Some, refl, ◌∙◌, ap, inl, inr, arith, leb, eqb, suc}
use Rattle.std.specs.Fmt.{decimal}
use Rattle.std.specs.List.{list_any}
use Rattle.std.specs.Str.{all_ascii_digits}
use Rattle.std.proofs.lemmas.Bool.{and_parts, or_parts, or_from, leb-true, ltb-true, false≢true}
use Rattle.std.proofs.lemmas.Fmt.{digits_decimal, digits_value-decimal, decimal_nonempty}
use Rattle.ic_laws.specs.Scan.{is_digit, is_plain, is_word_character, is_letter, first_is, joins, IsEnd}
use Rattle.ic_laws.specs.declared.reference.Position.{Position}
use Rattle.ic_laws.specs.declared.reference.Position.TheVariants as at
use Rattle.ic_laws.specs.declared.reference.RefPart.{RefPart}
use Rattle.ic_laws.specs.declared.reference.Place.{Place}
use Rattle.ic_laws.specs.declared.reference.Place.TheVariants as places
use Rattle.ic_laws.specs.Position.{is_within, is_part_within, is_place_within}
use Rattle.ic_refs.specs.Stored.{SpellsNumber, SpellsDistance, SpellsPosition, SpellsCell, SpellsPlace, position_text, cell_text, place_text, stored_place_at}
use Rattle.ic_refs.proofs.StoredReachLemmas.{place_exactly, other_than_digit}
use Rattle.ic_laws.proofs.AmountLemmas.{numerals as own}

number_spelled : (n : ℕ) → n < 2 ^ 64 → SpellsNumber (decimal n) n
number_spelled n h = (digits_decimal own n h, (λ e. omega (arith, ap length e, decimal_nonempty n h)), digits_value-decimal own n h)

position_spelled : (letter length : ℕ) (position : Position) → length < 2 ^ 32 → is_within length position ≡ true → SpellsPosition letter (position_text letter position) position
position_spelled letter length (at.Abs (pos n)) l w =
    let p = and_parts (leb 1 n) (leb n length) w in (decimal n, n, refl, number_spelled n (omega (arith, leb-true n length p.1)), refl)
position_spelled letter length (at.Abs (negsuc n)) l w = absurd (false≢true w)
position_spelled letter length (at.Rel (pos n)) l w = (decimal n, refl, (n, inl (number_spelled n (omega (arith, ltb-true n length w)), refl)))
position_spelled letter length (at.Rel (negsuc n)) l w =
    (45 ∷ decimal (suc n), refl, (suc n, inr (decimal (suc n), refl, number_spelled (suc n) (omega (arith, ltb-true (suc n) length w)), refl)))

cell_spelled : (part : RefPart) → is_part_within part ≡ true → SpellsCell (cell_text part) part
cell_spelled part w =
    let p = and_parts (is_within 1048576 part.row) (is_within 16384 part.column) w in
    record {
      row_text = position_text 82 part.row;
      column_text = position_text 67 part.column;
      whole = refl;
      row = position_spelled 82 1048576 part.row (omega arith) p.0;
      column = position_spelled 67 16384 part.column (omega arith) p.1;
      within = w;
    }

-- What is written of a place within the limits spells it.
pub place_spelled : (place : Place) → is_place_within place ≡ true → SpellsPlace (place_text place) place
place_spelled (places.Cell part) w = cell_spelled part w
place_spelled (places.Range first last) w =
    let p = and_parts (is_part_within first) (is_part_within last) w in (cell_text first, cell_text last, refl, cell_spelled first p.0, cell_spelled last p.1)

-- No character of a word, and no `!`, colon, dollar sign or opening bracket stands at an end.
pub record IsApartAtEnd (c : ℕ) : Type 0 where
  pub plain : is_plain c ≡ false
  pub digit : is_digit c ≡ false
  pub bang : eqb c 33 ≡ false
  pub colon : eqb c 58 ≡ false

at_end : (c : ℕ) → joins c ≡ false → IsApartAtEnd c
at_end c h =
    let dollar = (or_parts (is_word_character c || eqb c 33 || eqb c 58 || eqb c 36) (eqb c 91) h).0 in
    let colon = or_parts (is_word_character c || eqb c 33) (eqb c 58) (or_parts (is_word_character c || eqb c 33 || eqb c 58) (eqb c 36) dollar).0 in
    let bang = or_parts (is_word_character c) (eqb c 33) colon.0 in
    let plain = (or_parts (is_plain c) (eqb c 92) bang.0).0 in
    let low = (or_parts (is_letter c || is_digit c) (eqb c 95) (or_parts (is_letter c || is_digit c || eqb c 95) (eqb c 46) plain).0).0 in
    record { plain = plain; digit = (or_parts (is_letter c) (is_digit c) low).1; bang = bang.1; colon = colon.1 }

pub end_plain : (rest : List ℕ) → IsEnd rest → first_is is_plain rest ≡ false
end_plain [] h = refl
end_plain (c ∷ cs) h = (at_end c h).plain

pub end_digit : (rest : List ℕ) → IsEnd rest → first_is is_digit rest ≡ false
end_digit [] h = refl
end_digit (c ∷ cs) h = (at_end c h).digit

pub end_bang : (rest : List ℕ) → IsEnd rest → first_is (λ c. eqb c 33) rest ≡ false
end_bang [] h = refl
end_bang (c ∷ cs) h = (at_end c h).bang

pub end_colon : (rest : List ℕ) → IsEnd rest → first_is (λ c. eqb c 58) rest ≡ false
end_colon [] h = refl
end_colon (c ∷ cs) h = (at_end c h).colon

-- What is written of a place is read back, wherever the reference ends after it.
pub place_again : (place : Place) (rest : List ℕ) → is_place_within place ≡ true → IsEnd rest → stored_place_at (place_text place ++ rest) ≡ Some (place, rest)
place_again place rest w e = place_exactly (place_text place) rest place (place_spelled place w) (end_digit rest e) (end_colon rest e)

-- A place has digits, R, C, brackets, minus signs and colons.
pub record IsApart (p : ℕ → Bool) : Type 0 where
  pub digit : (c : ℕ) → is_digit c ≡ true → p c ≡ false
  pub row : p 82 ≡ false
  pub column : p 67 ≡ false
  pub opening : p 91 ≡ false
  pub closing : p 93 ≡ false
  pub minus : p 45 ≡ false
  pub colon : p 58 ≡ false

pub none_append : (p : ℕ → Bool) (a b : List ℕ) → list_any p a ≡ false → list_any p b ≡ false → list_any p (a ++ b) ≡ false
none_append p [] b h k = k
none_append p (c ∷ a) b h k =
    let q = or_parts (p c) (list_any p a) h in or_from (p c) (list_any p (a ++ b)) q.0 (none_append p a b q.1 k)

none_in_digits : (p : ℕ → Bool) (ds : List ℕ) → IsApart p → all_ascii_digits ds ≡ true → list_any p ds ≡ false
none_in_digits p [] a h = refl
none_in_digits p (c ∷ ds) a h =
    let q = and_parts (is_digit c) (all_ascii_digits ds) h in or_from (p c) (list_any p ds) (a.digit c q.0) (none_in_digits p ds a q.1)

none_in_distance : (p : ℕ → Bool) (text : List ℕ) (k : ℤ) → IsApart p → SpellsDistance text k → list_any p text ≡ false
none_in_distance p text k a (n, inl s) = none_in_digits p text a s.0.0
none_in_distance p text k a (n, inr s) = ap (list_any p) s.1 ∙ or_from (p 45) (list_any p s.0) a.minus (none_in_digits p s.0 a s.2.0)

none_in_position : (p : ℕ → Bool) (letter : ℕ) (text : List ℕ) (position : Position) → IsApart p → p letter ≡ false → SpellsPosition letter text position → list_any p text ≡ false
none_in_position p letter text (at.Abs n) a l s = ap (list_any p) s.2 ∙ or_from (p letter) (list_any p s.0) l (none_in_digits p s.0 a s.3.0)
none_in_position p letter text (at.Rel k) a l s =
    ap (list_any p) s.1
    ∙ or_from (p letter) (list_any p (91 ∷ s.0 ++ 93 ∷ [])) l
    (or_from (p 91) (list_any p (s.0 ++ 93 ∷ [])) a.opening
    (none_append p s.0 (93 ∷ []) (none_in_distance p s.0 k a s.2) (or_from (p 93) false a.closing refl)))

none_in_cell : (p : ℕ → Bool) (text : List ℕ) (part : RefPart) → IsApart p → SpellsCell text part → list_any p text ≡ false
none_in_cell p text part a s =
    ap (list_any p) s.whole
    ∙ none_append p s.row_text s.column_text (none_in_position p 82 s.row_text part.row a a.row s.row) (none_in_position p 67 s.column_text part.column a a.column s.column)

pub none_in_place : (p : ℕ → Bool) (text : List ℕ) (place : Place) → IsApart p → SpellsPlace text place → list_any p text ≡ false
none_in_place p text (places.Cell part) a s = none_in_cell p text part a s
none_in_place p text (places.Range first last) a s =
    ap (list_any p) s.2
    ∙ none_append p s.0 (58 ∷ s.1) (none_in_cell p s.0 first a s.3) (or_from (p 58) (list_any p s.1) a.colon (none_in_cell p s.1 last a s.4))

-- It begins with an R, so it isn't empty.
position_begins : (letter : ℕ) (text : List ℕ) (position : Position) → SpellsPosition letter text position → (t : List ℕ) × (text ≡ letter ∷ t)
position_begins letter text (at.Abs n) s = (s.0, s.2)
position_begins letter text (at.Rel k) s = (91 ∷ s.0 ++ 93 ∷ [], s.1)

cell_begins : (text : List ℕ) (part : RefPart) → SpellsCell text part → (t : List ℕ) × (text ≡ 82 ∷ t)
cell_begins text part s =
    let b = position_begins 82 s.row_text part.row s.row in (b.0 ++ s.column_text, s.whole ∙ ap (λ r. r ++ s.column_text) b.1)

pub place_begins : (text : List ℕ) (place : Place) → SpellsPlace text place → (t : List ℕ) × (text ≡ 82 ∷ t)
place_begins text (places.Cell part) s = cell_begins text part s
place_begins text (places.Range first last) s = let b = cell_begins s.0 first s.3 in (b.0 ++ 58 ∷ s.1, s.2 ∙ ap (λ r. r ++ 58 ∷ s.1) b.1)

-- Neither a ! nor a quote is in it.
apart_from : (x : ℕ) → is_digit x ≡ false → eqb 82 x ≡ false → eqb 67 x ≡ false → eqb 91 x ≡ false → eqb 93 x ≡ false → eqb 45 x ≡ false → eqb 58 x ≡ false → IsApart (λ c. eqb c x)
apart_from x d r c o l m k = record { digit = λ c h. other_than_digit c x h d; row = r; column = c; opening = o; closing = l; minus = m; colon = k }

pub no_bang_in_place : (text : List ℕ) (place : Place) → SpellsPlace text place → list_any (λ c. eqb c 33) text ≡ false
no_bang_in_place text place s = none_in_place (λ c. eqb c 33) text place (apart_from 33 refl refl refl refl refl refl refl) s
