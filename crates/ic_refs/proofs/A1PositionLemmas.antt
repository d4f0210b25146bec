-- A position: its number, after a dollar sign or not.
use Rattle.std.proofs.Common.{◌≡◌, ℕ, ℤ, pos, ◌≤◌, ◌<◌, List, [], ◌∷◌, ◌++◌, Bool, true, false, length, Option, Some, refl, sym, ◌∙◌, ap, subst, arith, inl, inr}
use Rattle.std.proofs.lemmas.Int.{ints}
use Rattle.std.specs.List.{list_all}
use Rattle.std.proofs.lemmas.Bool.{and_parts, ne_eqb}
use Rattle.std.proofs.lemmas.Bool.Decides.{eqb_tells}
use Rattle.ic_laws.specs.Scan.{first_is, past_dollar}
use Rattle.ic_laws.specs.Position.{place_at}
use Rattle.ic_laws.specs.declared.reference.Position.{Position}
use Rattle.ic_laws.specs.declared.reference.Position.TheVariants as at
use Rattle.ic_refs.specs.A1.{dollar_of, has_dollar, read_position, position_of}
use Rattle.ic_refs.specs.Digits.{number_value, number_from}
use Rattle.ic_refs.specs.Formula.{is_absolute}
use Rattle.ic_refs.proofs.LongestLemmas.{IsTaken}
use Rattle.ic_refs.proofs.DigitsLemmas.{read_past, read_stops, IsNumberTaken, number_taken}

-- a position spelled by digits of a kind, up to a limit
pub record SpellsCounted (is : ℕ → Bool) (value : ℕ → ℕ) (base most : ℕ) (origin : ℤ) (text : List ℕ) (position : Position) : Type 0 where
  pub digits : List ℕ
  pub whole : text ≡ dollar_of position ++ digits
  pub all : list_all is digits ≡ true
  pub positive : 0 < number_value value base 0 digits
  pub within : number_value value base 0 digits ≤ most
  pub place : place_at position origin ≡ pos (number_value value base 0 digits)

-- the position at the front
abbrev pub number_at : (ℕ → Bool) → (ℕ → ℕ) → ℕ → ℕ → ℤ → List ℕ → Option (Position × List ℕ)
number_at is value base most origin text = read_position (has_dollar text) origin (number_from is value base most 0 (past_dollar text))

placed : (absolute : Bool) (n : ℕ) (origin : ℤ) → place_at (position_of absolute origin n) origin ≡ pos n
placed true n origin = refl
placed false n origin = omega (arith, ints)

-- what is read where something is
some_read : (absolute : Bool) (origin : ℤ) (read : ℕ × List ℕ) (found : Position × List ℕ) → read_position absolute origin read ≡ Some found
    → (0 < read.0) × (found ≡ (position_of absolute origin read.0, read.1))
some_read absolute origin read found e =
    elim (eqb_tells read.0 0) [
      | inl p ↦ let n = rw p.0 at e in absurd (cc)
      | inr p ↦ let same = rw p.0 at e in (omega (arith, p.1), cc)
    ]

read_some : (absolute : Bool) (origin : ℤ) (read : ℕ × List ℕ) → 0 < read.0 → read_position absolute origin read ≡ Some (position_of absolute origin read.0, read.1)
read_some absolute origin read h = rw (ne_eqb read.0 0 (λ e. omega arith)) refl

-- what is read is spelled so
read_spelled : (is : ℕ → Bool) (value : ℕ → ℕ) (base most : ℕ) (origin : ℤ) (absolute : Bool) (text : List ℕ) (read : ℕ × List ℕ) (found : Position × List ℕ)
    → IsNumberTaken is value base most 0 text read → read_position absolute origin read ≡ Some found
    → (front : List ℕ) × (text ≡ front ++ found.1) × SpellsCounted is value base most origin (dollar_of (position_of absolute origin read.0) ++ front) found.0
read_spelled is value base most origin absolute text read found t e =
    let known = some_read absolute origin read found e in
    let Wanted : Position × List ℕ → Type 0 = λ f. (front : List ℕ) × (text ≡ front ++ f.1) × SpellsCounted is value base most origin (dollar_of (position_of absolute origin read.0) ++ front) f.0 in
    subst Wanted (sym known.1) (
      t.front,
      t.whole,
      record {
        digits = t.front;
        whole = refl;
        all = t.all;
        positive = omega (arith, t.number, known.0);
        within = omega (arith, t.number, t.within (omega arith));
        place = placed absolute read.0 origin ∙ ap pos t.number;
      },
    )

-- what is read at the front is spelled so
pub number_at-spelled : (is : ℕ → Bool) (value : ℕ → ℕ) (base most : ℕ) (origin : ℤ) (text : List ℕ) (found : Position × List ℕ)
    → number_at is value base most origin text ≡ Some found → IsTaken (SpellsCounted is value base most origin) text found
number_at-spelled is value base most origin [] found e =
    let r = read_spelled is value base most origin false [] (number_from is value base most 0 []) found (number_taken is value base most 0 []) e in
    record { front = r.0; whole = r.1; spelled = r.2 }
number_at-spelled is value base most origin (c ∷ cs) found e =
    elim (eqb_tells c 36) [
      | inl p ↦ let r = read_spelled is value base most origin true cs (number_from is value base most 0 cs) found (number_taken is value base most 0 cs) (rw p.0 at e) in
          record { front = 36 ∷ r.0; whole = ap (λ x. x ∷ cs) p.1 ∙ ap (λ v. 36 ∷ v) r.1; spelled = r.2 }
      | inr p ↦ let r = read_spelled is value base most origin false (c ∷ cs) (number_from is value base most 0 (c ∷ cs)) found (number_taken is value base most 0 (c ∷ cs)) (rw p.0 at e) in
          record { front = r.0; whole = r.1; spelled = r.2 }
    ]

-- a spelled position is read as its digits are, after its dollar sign
read_after : (is : ℕ → Bool) (value : ℕ → ℕ) (base most : ℕ) (origin : ℤ) (digits rest : List ℕ) (position : Position) → is 36 ≡ false
    → list_all is digits ≡ true → 0 < number_value value base 0 digits
    → number_at is value base most origin ((dollar_of position ++ digits) ++ rest) ≡ read_position (is_absolute position) origin (number_from is value base most 0 (digits ++ rest))
read_after is value base most origin digits rest (at.Abs n) d a p = refl
read_after is value base most origin [] rest (at.Rel k) d a p = absurd (omega arith)
read_after is value base most origin (c ∷ cs) rest (at.Rel k) d a p =
    elim (eqb_tells c 36) [
      | inl q ↦ let yes : is 36 ≡ true = subst (λ x. is x ≡ true) q.1 (and_parts (is c) (list_all is cs) a).0 in absurd (cc)
      | inr q ↦ rw q.0 refl
    ]

-- a spelled position is read, or a longer one
pub number_at-longest : (is : ℕ → Bool) (value : ℕ → ℕ) (base most : ℕ) (origin : ℤ) (front rest : List ℕ) (position : Position) → 1 ≤ base → is 36 ≡ false
    → SpellsCounted is value base most origin front position
    → (found : Position × List ℕ) × (number_at is value base most origin (front ++ rest) ≡ Some found) × (length found.1 ≤ length rest)
number_at-longest is value base most origin front rest position b d s =
    let n = number_value value base 0 s.digits in
    let read = number_from is value base most n rest in
    let t = number_taken is value base most n rest in
    let more : 0 < read.0 = omega (arith, t.grown b, s.positive) in (
      (position_of (is_absolute position) origin read.0, read.1),
      ap (λ v. number_at is value base most origin (v ++ rest)) s.whole
          ∙ read_after is value base most origin s.digits rest position d s.all s.positive
          ∙ ap (read_position (is_absolute position) origin) (read_past is value base most 0 s.digits rest b s.all s.within)
          ∙ read_some (is_absolute position) origin read more,
      t.shorter,
    )

-- the position of its number
position_again : (position : Position) (origin : ℤ) (n : ℕ) → place_at position origin ≡ pos n → position_of (is_absolute position) origin n ≡ position
position_again (at.Abs m) origin n e = ap at.Abs (sym e)
position_again (at.Rel k) origin n e = ap at.Rel (omega (arith, ints))

-- and just this one where no further digit stands after it
pub number_at-exact : (is : ℕ → Bool) (value : ℕ → ℕ) (base most : ℕ) (origin : ℤ) (front rest : List ℕ) (position : Position) → 1 ≤ base → is 36 ≡ false
    → SpellsCounted is value base most origin front position → first_is is rest ≡ false
    → number_at is value base most origin (front ++ rest) ≡ Some (position, rest)
number_at-exact is value base most origin front rest position b d s stops =
    let n = number_value value base 0 s.digits in
    ap (λ v. number_at is value base most origin (v ++ rest)) s.whole
    ∙ read_after is value base most origin s.digits rest position d s.all s.positive
    ∙ ap (read_position (is_absolute position) origin) (read_past is value base most 0 s.digits rest b s.all s.within ∙ read_stops is value base most n rest stops)
    ∙ read_some (is_absolute position) origin (n, rest) s.positive
    ∙ ap (λ p. Some (p, rest)) (position_again position origin n s.place)
