-- The stored form: what the reader of a place takes, and how far it reaches.
use Rattle.std.proofs.Common.{◌≡◌, ◌≢◌, ◌≤◌, ◌<◌, ℕ, ℤ, pos, neg_ℤ, nat_abs, ◌-◌, List, [], ◌∷◌, ◌++◌, true, length, Option, Some, None, option_map, refl, sym, subst, ◌∙◌, ap, inl, inr, arith, append_assoc, leb, eqb, zero, suc}
use Rattle.std.specs.Str.{all_ascii_digits}
use Rattle.std.specs.Str.Parse.{digits_value}
use Rattle.std.proofs.lemmas.Bool.{and_from, le-leb, lt-ltb, cases_Bool, true≢false, eqb-true, eqb-false}
use Rattle.ic_laws.specs.Scan.{is_digit, first_is}
use Rattle.ic_laws.specs.declared.reference.Position.{Position}
use Rattle.ic_laws.specs.declared.reference.Position.TheVariants as at
use Rattle.ic_laws.specs.declared.reference.RefPart.{RefPart}
use Rattle.ic_refs.specs.Digits.{decimal_from}
use Rattle.ic_laws.specs.Position.{is_within}
use Rattle.ic_refs.specs.Stored.{SpellsNumber, SpellsDistance, SpellsPosition, SpellsCell, SpellsPlace, absolute_of, past_bracket, digits_at, distance_at, part_at, position_at, cell_at, cell_or_range, place_from, stored_place_at}
use Rattle.ic_refs.proofs.DigitsDecimalLemmas.{AreDigitsRead, number_reads}
use Rattle.ic_refs.proofs.LongestLemmas.{Takes, both_take}

-- a row or a column, within the limit
abbrev pub SpellsWithin : ℕ → ℕ → List ℕ → Position → Type 0
SpellsWithin letter length text position = SpellsPosition letter text position × (is_within length position ≡ true)

-- a distance less than the length, and its bracket
abbrev pub SpellsClosed : ℕ → List ℕ → ℕ → Type 0
SpellsClosed length text n = (digits : List ℕ) × (text ≡ digits ++ 93 ∷ []) × SpellsNumber digits n × (n < length)

-- What is taken

closed_takes : (length n : ℕ) (digits text after : List ℕ) → SpellsNumber digits n → n < length → text ≡ digits ++ after → Takes (SpellsClosed length) text (past_bracket n after)
closed_takes length n digits text [] s h e = tt
closed_takes length n digits text (c ∷ cs) s h e =
    elim (cases_Bool (eqb c 93)) [
      | inl t ↦ rw t (record { front = digits ++ 93 ∷ []; whole = e ∙ ap (λ x. digits ++ x ∷ cs) (eqb-true c 93 t) ∙ sym (append_assoc digits (93 ∷ []) cs); spelled = (digits, refl, s, h) })
      | inr f ↦ rw f tt
    ]

-- no bracket closes where a digit stands
no_bracket : (n : ℕ) (text : List ℕ) → first_is is_digit text ≡ true → past_bracket n text ≡ None
no_bracket n [] h = refl
no_bracket n (c ∷ cs) h =
    elim (cases_Bool (eqb c 93)) [
      | inl t ↦ absurd (true≢false (sym h ∙ ap is_digit (eqb-true c 93 t)))
      | inr f ↦ rw f refl
    ]

read_takes : (length n : ℕ) (digits text after : List ℕ) → first_is is_digit text ≡ true → text ≡ digits ++ after → all_ascii_digits digits ≡ true → digits_value 10 digits ≡ n → n < length → Takes (SpellsClosed length) text (past_bracket n after)
read_takes length n [] text after f e d v h = rw (no_bracket n after (subst (λ t. first_is is_digit t ≡ true) e f)) tt
read_takes length n (d ∷ ds) text after f e a v h = closed_takes length n (d ∷ ds) text after (a, (λ p. cc), v) h e

digits_take : (length : ℕ) (text : List ℕ) → 0 < length → Takes (SpellsClosed length) text (digits_at length text)
digits_take length text pos_length =
    let r = number_reads (length - 1) 0 text in
    elim (cases_Bool (first_is is_digit text)) [
      | inl t ↦ rw t (read_takes length (decimal_from (length - 1) 0 text).0 r.digits text (decimal_from (length - 1) 0 text).1 t r.whole r.ascii r.value (omega (arith, r.within (omega arith))))
      | inr f ↦ rw f tt
    ]

-- what stands after a letter
abbrev SpellsPart : ℕ → ℕ → List ℕ → Position → Type 0
SpellsPart letter length text position = SpellsWithin letter length (letter ∷ text) position

pub nat_abs_neg : (n : ℕ) → nat_abs (neg_ℤ (pos n)) ≡ n
nat_abs_neg zero = refl
nat_abs_neg (suc n) = refl

-- a distance in its brackets
distance_part : (letter length n : ℕ) (k : ℤ) (inner front : List ℕ) → front ≡ inner ++ 93 ∷ [] → SpellsDistance inner k → nat_abs k ≡ n → n < length → SpellsPart letter length (91 ∷ front) (at.Rel k)
distance_part letter length n k inner front e d a h = ((inner, ap (λ v. letter ∷ 91 ∷ v) e, d), lt-ltb _ _ (omega (arith, a)))

plus_takes : (letter length : ℕ) (text : List ℕ) (o : Option (ℕ × List ℕ)) → Takes (SpellsClosed length) text o → Takes (SpellsPart letter length) (91 ∷ text) (option_map (λ f. (at.Rel (pos f.0), f.1)) o)
plus_takes letter length text None t = tt
plus_takes letter length text (Some f) t = record {
  front = 91 ∷ t.front;
  whole = ap (λ v. 91 ∷ v) t.whole;
  spelled = distance_part letter length f.0 (pos f.0) t.spelled.0 t.front t.spelled.1 (f.0, inl (t.spelled.2, refl)) refl t.spelled.3;
}

minus_takes : (letter length : ℕ) (text : List ℕ) (o : Option (ℕ × List ℕ)) → Takes (SpellsClosed length) text o → Takes (SpellsPart letter length) (91 ∷ 45 ∷ text) (option_map (λ f. (at.Rel (neg_ℤ (pos f.0)), f.1)) o)
minus_takes letter length text None t = tt
minus_takes letter length text (Some f) t = record {
  front = 91 ∷ 45 ∷ t.front;
  whole = ap (λ v. 91 ∷ 45 ∷ v) t.whole;
  spelled = distance_part letter length f.0 (neg_ℤ (pos f.0)) (45 ∷ t.spelled.0) (45 ∷ t.front) (ap (λ v. 45 ∷ v) t.spelled.1) (f.0, inr (t.spelled.0, refl, t.spelled.2, refl)) (nat_abs_neg f.0) t.spelled.3;
}

distance_takes : (letter length : ℕ) (text : List ℕ) → 0 < length → Takes (SpellsPart letter length) (91 ∷ text) (distance_at length text)
distance_takes letter length [] h = tt
distance_takes letter length (c ∷ cs) h =
    elim (cases_Bool (eqb c 45)) [
      | inl t ↦ rw t (subst (λ x. Takes (SpellsPart letter length) (91 ∷ x ∷ cs) (option_map (λ f. (at.Rel (neg_ℤ (pos f.0)), f.1)) (digits_at length cs))) (sym (eqb-true c 45 t)) (minus_takes letter length cs (digits_at length cs) (digits_take length cs h)))
      | inr f ↦ rw f (plus_takes letter length (c ∷ cs) (digits_at length (c ∷ cs)) (digits_take length (c ∷ cs) h))
    ]

absolute_takes : (letter length : ℕ) (text : List ℕ) (read : ℕ × List ℕ) → AreDigitsRead length 0 text read → Takes (SpellsPart letter length) text (absolute_of read)
absolute_takes letter length text read r =
    elim (cases_Bool (eqb read.0 0)) [
      | inl t ↦ rw t tt
      | inr f ↦
          let some : r.digits ≢ [] = λ e. eqb-false read.0 0 f (sym r.value ∙ ap (digits_value 10) e) in
          let low : 1 ≤ read.0 = omega (arith, eqb-false read.0 0 f) in
          rw f (record { front = r.digits; whole = r.whole; spelled = ((r.digits, read.0, refl, (r.ascii, some, r.value), refl), and_from (leb 1 read.0) (leb read.0 length) (le-leb _ _ low) (le-leb _ _ (r.within (omega arith)))) })
    ]

part_takes : (letter length : ℕ) (text : List ℕ) → 0 < length → Takes (SpellsPart letter length) text (part_at length text)
part_takes letter length [] h = tt
part_takes letter length (c ∷ cs) h =
    elim (cases_Bool (eqb c 91)) [
      | inl t ↦ rw t (subst (λ x. Takes (SpellsPart letter length) (x ∷ cs) (distance_at length cs)) (sym (eqb-true c 91 t)) (distance_takes letter length cs h))
      | inr f ↦ rw f (absolute_takes letter length (c ∷ cs) (decimal_from length 0 (c ∷ cs)) (number_reads length 0 (c ∷ cs)))
    ]

lettered : (letter length : ℕ) (text : List ℕ) (o : Option (Position × List ℕ)) → Takes (SpellsPart letter length) text o → Takes (SpellsWithin letter length) (letter ∷ text) o
lettered letter length text None t = tt
lettered letter length text (Some f) t = record { front = letter ∷ t.front; whole = ap (λ v. letter ∷ v) t.whole; spelled = t.spelled }

position_takes : (letter length : ℕ) (text : List ℕ) → 0 < length → Takes (SpellsWithin letter length) text (position_at letter length text)
position_takes letter length [] h = tt
position_takes letter length (c ∷ cs) h =
    elim (cases_Bool (eqb c letter)) [
      | inl t ↦ rw t (subst (λ x. Takes (SpellsWithin letter length) (x ∷ cs) (part_at length cs)) (sym (eqb-true c letter t)) (lettered letter length cs (part_at length cs) (part_takes letter length cs h)))
      | inr f ↦ rw f tt
    ]

-- a row and a column are a cell
cell_of : (s t : List ℕ) (row column : Position) → SpellsWithin 82 1048576 s row → SpellsWithin 67 16384 t column → SpellsCell (s ++ t) (record { row = row; column = column })
cell_of s t row column a b = record {
  row_text = s;
  column_text = t;
  whole = refl;
  row = a.0;
  column = b.0;
  within = and_from (is_within 1048576 row) (is_within 16384 column) a.1 b.1;
}

pub cell_takes : (text : List ℕ) → Takes SpellsCell text (cell_at text)
cell_takes text =
    both_take (SpellsWithin 82 1048576) (SpellsWithin 67 16384) SpellsCell (λ r c. record { row = r; column = c }) text (position_at 82 1048576 text) (position_at 67 16384)
    (position_takes 82 1048576 text (omega arith)) (λ rest. position_takes 67 16384 rest (omega arith)) cell_of

range_takes : (text a beyond : List ℕ) (first : RefPart) (o : Option (RefPart × List ℕ)) → text ≡ a ++ 58 ∷ beyond → SpellsCell a first → Takes SpellsCell beyond o → Takes SpellsPlace text (Some (cell_or_range first (58 ∷ beyond) o))
range_takes text a beyond first None e s t = record { front = a; whole = e; spelled = s }
range_takes text a beyond first (Some last) e s t = record {
  front = a ++ 58 ∷ t.front;
  whole = e ∙ ap (λ b. a ++ 58 ∷ b) t.whole ∙ sym (append_assoc a (58 ∷ t.front) last.1);
  spelled = (a, t.front, refl, s, t.spelled);
}

from_takes : (text a : List ℕ) (first : RefPart) (rest : List ℕ) → text ≡ a ++ rest → SpellsCell a first → Takes SpellsPlace text (Some (place_from first rest))
from_takes text a first [] e s = record { front = a; whole = e; spelled = s }
from_takes text a first (c ∷ cs) e s =
    elim (cases_Bool (eqb c 58)) [
      | inl t ↦
          let k : c ≡ 58 = eqb-true c 58 t in
          rw t (subst (λ x. Takes SpellsPlace text (Some (cell_or_range first (x ∷ cs) (cell_at cs)))) (sym k) (range_takes text a cs first (cell_at cs) (e ∙ ap (λ x. a ++ x ∷ cs) k) s (cell_takes cs)))
      | inr f ↦ rw f (record { front = a; whole = e; spelled = s })
    ]

place_takes_of : (text : List ℕ) (o : Option (RefPart × List ℕ)) → Takes SpellsCell text o → Takes SpellsPlace text (option_map (λ f. place_from f.0 f.1) o)
place_takes_of text None t = tt
place_takes_of text (Some f) t = from_takes text t.front f.0 f.1 t.whole t.spelled

pub place_takes : (text : List ℕ) → Takes SpellsPlace text (stored_place_at text)
place_takes text = place_takes_of text (cell_at text) (cell_takes text)
