-- The stored form: whatever is spelled at the front is read, or more than that.
use Rattle.std.proofs.Common.{◌≡◌, ◌≢◌, ◌≤◌, ◌<◌, ℕ, ℤ, pos, neg_ℤ, nat_abs, ◌-◌, List, [], ◌∷◌, ◌++◌, true, false, ◌&&◌, length, Option, Some, None, option_map, option_and_then, refl, sym, subst, ◌∙◌, ap, inl, inr, arith, append_assoc, leb, eqb}
use Rattle.std.specs.Str.{all_ascii_digits}
use Rattle.std.proofs.lemmas.Bool.{and_parts, leb-true, ltb-true, cases_Bool, true≢false, ne_eqb, eq-eqb}
use Rattle.ic_laws.specs.Scan.{is_digit, first_is}
use Rattle.ic_laws.specs.declared.reference.Position.{Position}
use Rattle.ic_laws.specs.declared.reference.Position.TheVariants as at
use Rattle.ic_laws.specs.declared.reference.RefPart.{RefPart}
use Rattle.ic_laws.specs.declared.reference.Place.{Place}
use Rattle.ic_laws.specs.declared.reference.Place.TheVariants as places
use Rattle.ic_refs.specs.Longest.{FindsLongest}
use Rattle.ic_refs.specs.Digits.{decimal_from}
use Rattle.ic_laws.specs.Position.{is_within}
use Rattle.ic_refs.specs.Stored.{SpellsNumber, SpellsDistance, SpellsPosition, SpellsCell, SpellsPlace, absolute_of, past_bracket, digits_at, distance_at, part_at, position_at, cell_at, cell_or_range, place_from, stored_place_at}
use Rattle.ic_refs.proofs.DigitsDecimalLemmas.{number_reads, number_over, number_stops, number_rest_le, after-grows}
use Rattle.ic_refs.proofs.LongestLemmas.{Takes, Reaches, finds_longest, takes_le, reaches_exactly, reaches_map}
use Rattle.ic_refs.proofs.StoredLemmas.{SpellsWithin, nat_abs_neg, cell_takes, place_takes}

-- the first of digits is a digit
pub digits_begin : (digits after : List ℕ) → all_ascii_digits digits ≡ true → digits ≢ [] → first_is is_digit (digits ++ after) ≡ true
digits_begin [] after a n = absurd (n refl)
digits_begin (d ∷ ds) after a n = (and_parts (is_digit d) (all_ascii_digits ds) a).0

-- a digit is no other character
pub other_than_digit : (c x : ℕ) → is_digit c ≡ true → is_digit x ≡ false → eqb c x ≡ false
other_than_digit c x h n = ne_eqb c x (λ e. true≢false (sym h ∙ ap is_digit e ∙ n))

digits_exactly : (length n : ℕ) (digits after : List ℕ) → SpellsNumber digits n → n < length → digits_at length (digits ++ 93 ∷ after) ≡ Some (n, after)
digits_exactly length n digits after s h =
    let over = number_over (length - 1) 0 digits (93 ∷ after) s.0 (omega (arith, s.2)) in
    let e : decimal_from (length - 1) 0 (digits ++ 93 ∷ after) ≡ (n, 93 ∷ after) = over ∙ ap (λ m. decimal_from (length - 1) m (93 ∷ after)) s.2 in
    rw (digits_begin digits (93 ∷ after) s.0 s.1) (ap (λ r. past_bracket r.0 r.1) e)

distance_plus : (length : ℕ) (text after : List ℕ) (n : ℕ) → first_is is_digit text ≡ true → digits_at length text ≡ Some (n, after) → distance_at length text ≡ Some (at.Rel (pos n), after)
distance_plus length [] after n f e = absurd (true≢false (sym f))
distance_plus length (c ∷ cs) after n f e = rw (other_than_digit c 45 f refl) (ap (option_map (λ f. (at.Rel (pos f.0), f.1))) e)

distance_exactly : (length : ℕ) (k : ℤ) (inner after : List ℕ) → SpellsDistance inner k → nat_abs k < length → distance_at length (inner ++ 93 ∷ after) ≡ Some (at.Rel k, after)
distance_exactly length k inner after (n, inl s) h =
    distance_plus length (inner ++ 93 ∷ after) after n (digits_begin inner (93 ∷ after) s.0.0 s.0.1)
    (digits_exactly length n inner after s.0 (omega (arith, h, ap nat_abs s.1)))
    ∙ ap (λ k. Some (at.Rel k, after)) (sym s.1)
distance_exactly length k inner after (n, inr s) h =
    let l : n < length = omega (arith, h, ap nat_abs s.3, nat_abs_neg n) in
    ap (λ t. distance_at length (t ++ 93 ∷ after)) s.1
    ∙ ap (option_map (λ f. (at.Rel (neg_ℤ (pos f.0)), f.1))) (digits_exactly length n s.0 after s.2 l)
    ∙ ap (λ k. Some (at.Rel k, after)) (sym s.3)

-- digits after a letter
part_digits : (length : ℕ) (text : List ℕ) → first_is is_digit text ≡ true → part_at length text ≡ absolute_of (decimal_from length 0 text)
part_digits length [] f = absurd (true≢false (sym f))
part_digits length (c ∷ cs) f = rw (other_than_digit c 91 f refl) refl

absolute_some : (m : ℕ) (after : List ℕ) → 0 < m → absolute_of (m, after) ≡ Some (at.Abs (pos m), after)
absolute_some m after h = rw (ne_eqb m 0 (λ e. omega arith)) refl

part_over : (length m : ℕ) (digits after : List ℕ) → SpellsNumber digits m → m ≤ length → part_at length (digits ++ after) ≡ absolute_of (decimal_from length m after)
part_over length m digits after s h =
    part_digits length (digits ++ after) (digits_begin digits after s.0 s.1)
    ∙ ap absolute_of (number_over length 0 digits after s.0 (omega (arith, s.2)) ∙ ap (λ v. decimal_from length v after) s.2)

-- the same letter is in front
position_letter : (letter length : ℕ) (text : List ℕ) → position_at letter length (letter ∷ text) ≡ part_at length text
position_letter letter length text = rw (eq-eqb letter letter refl) refl

-- a row or a column before anything but a digit is read as it is
position_exactly : (letter length : ℕ) (text after : List ℕ) (position : Position) → SpellsWithin letter length text position → first_is is_digit after ≡ false → position_at letter length (text ++ after) ≡ Some (position, after)
position_exactly letter length text after (at.Abs n) s f =
    let m = s.0.1 in
    let w : (leb 1 m && leb m length) ≡ true = subst (λ n. is_within length (at.Abs n) ≡ true) s.0.4 s.1 in
    let p = and_parts (leb 1 m) (leb m length) w in
    ap (λ t. position_at letter length (t ++ after)) s.0.2
    ∙ position_letter letter length (s.0.0 ++ after)
    ∙ part_over length m s.0.0 after s.0.3 (leb-true _ _ p.1)
    ∙ ap absolute_of (number_stops length m after f)
    ∙ absolute_some m after (leb-true _ _ p.0)
    ∙ ap (λ n. Some (at.Abs n, after)) (sym s.0.4)
position_exactly letter length text after (at.Rel k) s f =
    ap (λ t. position_at letter length (t ++ after)) s.0.1
    ∙ position_letter letter length (91 ∷ (s.0.0 ++ 93 ∷ []) ++ after)
    ∙ ap (λ t. distance_at length t) (append_assoc s.0.0 (93 ∷ []) after)
    ∙ distance_exactly length k s.0.0 after s.0.2 (ltb-true _ _ s.1)

absolute_reaches : (m : ℕ) (after : List ℕ) (read : ℕ × List ℕ) → 0 < read.0 → length read.1 ≤ length after → Reaches after (absolute_of read)
absolute_reaches m after read h l = rw (ne_eqb read.0 0 (λ e. omega arith)) l

-- before a digit more may be read
position_reaches : (letter length : ℕ) (text after : List ℕ) (position : Position) → SpellsWithin letter length text position → Reaches after (position_at letter length (text ++ after))
position_reaches letter length text after (at.Abs n) s =
    let m = s.0.1 in
    let w : (leb 1 m && leb m length) ≡ true = subst (λ n. is_within length (at.Abs n) ≡ true) s.0.4 s.1 in
    let p = and_parts (leb 1 m) (leb m length) w in
    let r = number_reads length m after in
    let e = ap (λ t. position_at letter length (t ++ after)) s.0.2 ∙ position_letter letter length (s.0.0 ++ after) ∙ part_over length m s.0.0 after s.0.3 (leb-true _ _ p.1) in
    subst (λ o. Reaches after o) (sym e)
    (absolute_reaches m after (decimal_from length m after) (omega (arith, leb-true _ _ p.0, after-grows m r.digits, r.value)) (number_rest_le length m after))
position_reaches letter length text after (at.Rel k) s =
    let e : position_at letter length (text ++ after) ≡ Some (at.Rel k, after) =
    ap (λ t. position_at letter length (t ++ after)) s.0.1
    ∙ position_letter letter length (91 ∷ (s.0.0 ++ 93 ∷ []) ++ after)
    ∙ ap (λ t. distance_at length t) (append_assoc s.0.0 (93 ∷ []) after)
    ∙ distance_exactly length k s.0.0 after s.0.2 (ltb-true _ _ s.1)
    in
    reaches_exactly after (at.Rel k) (position_at letter length (text ++ after)) e

-- each begins with its letter
begins_letter : (letter : ℕ) (text after : List ℕ) (position : Position) → is_digit letter ≡ false → SpellsPosition letter text position → first_is is_digit (text ++ after) ≡ false
begins_letter letter text after (at.Abs n) f s = ap (λ t. first_is is_digit (t ++ after)) s.2 ∙ f
begins_letter letter text after (at.Rel k) f s = ap (λ t. first_is is_digit (t ++ after)) s.1 ∙ f

-- the column of a cell is read after its row
cell_row : (text after : List ℕ) (part : RefPart) → (s : SpellsCell text part) → cell_at (text ++ after) ≡ option_map (λ c. (record { row = part.row; column = c.0 }, c.1)) (position_at 67 16384 (s.column_text ++ after))
cell_row text after part s =
    let w = and_parts (is_within 1048576 part.row) (is_within 16384 part.column) s.within in
    ap (λ t. cell_at (t ++ after)) s.whole
    ∙ ap cell_at (append_assoc s.row_text s.column_text after)
    ∙ ap (option_and_then (λ r. option_map (λ c. (record { row = r.0; column = c.0 }, c.1)) (position_at 67 16384 r.1)))
    (position_exactly 82 1048576 s.row_text (s.column_text ++ after) part.row (s.row, w.0) (begins_letter 67 s.column_text after part.column refl s.column))

pub cell_exactly : (text after : List ℕ) (part : RefPart) → SpellsCell text part → first_is is_digit after ≡ false → cell_at (text ++ after) ≡ Some (part, after)
cell_exactly text after part s f =
    let w = and_parts (is_within 1048576 part.row) (is_within 16384 part.column) s.within in
    cell_row text after part s
    ∙ ap (option_map (λ c. (record { row = part.row; column = c.0 }, c.1))) (position_exactly 67 16384 s.column_text after part.column (s.column, w.1) f)

pub cell_reaches : (text after : List ℕ) (part : RefPart) → SpellsCell text part → Reaches after (cell_at (text ++ after))
cell_reaches text after part s =
    let w = and_parts (is_within 1048576 part.row) (is_within 16384 part.column) s.within in
    let make : Position → RefPart = λ c. record { row = part.row; column = c } in
    subst (λ o. Reaches after o) (sym (cell_row text after part s))
    (reaches_map make after (position_at 67 16384 (s.column_text ++ after)) (position_reaches 67 16384 s.column_text after part.column (s.column, w.1)))

-- a place that begins with a cell leaves no more than the cell does
range_le : (first : RefPart) (c : ℕ) (cs : List ℕ) (o : Option (RefPart × List ℕ)) → Takes SpellsCell cs o → length (cell_or_range first (c ∷ cs) o).1 ≤ length (c ∷ cs)
range_le first c cs None t = omega arith
range_le first c cs (Some last) t = omega (arith, takes_le SpellsCell cs last t)

from_le : (first : RefPart) (rest : List ℕ) → length (place_from first rest).1 ≤ length rest
from_le first [] = omega arith
from_le first (c ∷ cs) =
    elim (cases_Bool (eqb c 58)) [
      | inl t ↦ rw t (range_le first c cs (cell_at cs) (cell_takes cs))
      | inr f ↦ rw f (omega arith)
    ]

cell_place_reaches : (after : List ℕ) (o : Option (RefPart × List ℕ)) → Reaches after o → Reaches after (option_map (λ f. place_from f.0 f.1) o)
cell_place_reaches after None r = r
cell_place_reaches after (Some f) r = omega (arith, r, from_le f.0 f.1)

range_reaches : (after beyond : List ℕ) (first : RefPart) (o : Option (RefPart × List ℕ)) → Reaches after o → length (cell_or_range first beyond o).1 ≤ length after
range_reaches after beyond first None r = absurd r
range_reaches after beyond first (Some last) r = r

-- after a first cell and a colon the second cell is read
range_at : (a b after : List ℕ) (first : RefPart) → SpellsCell a first → stored_place_at ((a ++ 58 ∷ b) ++ after) ≡ Some (cell_or_range first (58 ∷ (b ++ after)) (cell_at (b ++ after)))
range_at a b after first s =
    ap stored_place_at (append_assoc a (58 ∷ b) after)
    ∙ ap (option_map (λ f. place_from f.0 f.1)) (cell_exactly a (58 ∷ (b ++ after)) first s refl)

pub place_reaches : (text after : List ℕ) (place : Place) → SpellsPlace text place → Reaches after (stored_place_at (text ++ after))
place_reaches text after (places.Cell part) s = cell_place_reaches after (cell_at (text ++ after)) (cell_reaches text after part s)
place_reaches text after (places.Range first last) s =
    let e = ap (λ t. stored_place_at (t ++ after)) s.2 ∙ range_at s.0 s.1 after first s.3 in
    subst (λ o. Reaches after o) (sym e)
    (range_reaches after (58 ∷ (s.1 ++ after)) first (cell_at (s.1 ++ after)) (cell_reaches s.1 after last s.4))

-- The reader finds the longest place at the front of every text.
pub finds_longest_place : (text : List ℕ) → FindsLongest SpellsPlace text (stored_place_at text)
finds_longest_place text = finds_longest SpellsPlace stored_place_at place_takes (λ front after v s. place_reaches front after v s) text

-- nothing but a digit or a colon goes on a place
from_end : (first : RefPart) (after : List ℕ) → first_is (λ c. eqb c 58) after ≡ false → place_from first after ≡ (places.Cell first, after)
from_end first [] f = refl
from_end first (c ∷ cs) f = rw f refl

-- before anything else it is read as it is
pub place_exactly : (text after : List ℕ) (place : Place) → SpellsPlace text place → first_is is_digit after ≡ false → first_is (λ c. eqb c 58) after ≡ false → stored_place_at (text ++ after) ≡ Some (place, after)
place_exactly text after (places.Cell part) s d k =
    ap (option_map (λ f. place_from f.0 f.1)) (cell_exactly text after part s d) ∙ ap Some (from_end part after k)
place_exactly text after (places.Range first last) s d k =
    ap (λ t. stored_place_at (t ++ after)) s.2
    ∙ range_at s.0 s.1 after first s.3
    ∙ ap (λ o. Some (cell_or_range first (58 ∷ (s.1 ++ after)) o)) (cell_exactly s.1 after last s.4 d)
