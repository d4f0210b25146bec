-- Digits that are read one after another, up to a number that is too large for anything.
use Rattle.std.proofs.Common.{◌≡◌, ℕ, ◌+◌, ◌*◌, ◌-◌, ◌≤◌, List, [], ◌∷◌, Bool, true, false, not, ◌||◌, ◌&&◌, ◌==◌, min, Some, None, refl, sym, ap, subst, ◌∙◌, inl, inr, arith}
use Rattle.std.specs.Char.{digit_value}
use Rattle.std.specs.Str.Parse.{digits_value, digits_value_after}
use Rattle.std.proofs.lemmas.Bool.{cases_Bool}
use Rattle.std.proofs.lemmas.Bool.Decides.{leb_tells}
use Rattle.ic_laws.specs.Scan.{is_digit, run_of}
use Rattle.ic_laws.proofs.AmountLemmas.{digit_value-is, digits_value_after-ge}
use Rattle.ic_input.specs.Convention.{is_nothing}
use Rattle.ic_input.specs.Group.{group_at, past_threes, threes}

min-small : (m cap : ℕ) → m ≤ cap → min m cap ≡ m
min-small m cap h = omega arith

min-large : (m cap : ℕ) → cap ≤ m → min m cap ≡ cap
min-large m cap h = omega arith

-- what is cut off a number before more digits makes no difference to what is cut off after them
pub capped : (m cap : ℕ) (ds : List ℕ) → min (digits_value_after 10 (min m cap) ds) cap ≡ min (digits_value_after 10 m ds) cap
capped m cap ds =
    elim (leb_tells m cap) [
      | inl p ↦ ap (λ n. min (digits_value_after 10 n ds) cap) (min-small m cap p.1)
      | inr p ↦
          let low : cap ≤ min m cap = omega arith in
          let a : cap ≤ digits_value_after 10 (min m cap) ds = omega (arith, digits_value_after-ge (min m cap) ds) in
          let b : cap ≤ digits_value_after 10 m ds = omega (arith, digits_value_after-ge m ds) in
          min-large _ cap a ∙ sym (min-large _ cap b)
    ]

-- one more digit of a run is read
pub digit_more : (v c cap : ℕ) (text rest : List ℕ) → text ≡ c ∷ rest → is_digit c ≡ true → min (digits_value_after 10 (min (v * 10 + (c - 48)) cap) (run_of is_digit rest)) cap ≡ min (digits_value_after 10 v (run_of is_digit text)) cap
digit_more v c cap text rest e d =
    let same : v * 10 + (c - 48) ≡ v * 10 + digit_value c = ap (λ n. v * 10 + n) (sym (digit_value-is c d)) in
    rw (e, d) (capped (v * 10 + (c - 48)) cap (run_of is_digit rest) ∙ ap (λ n. min (digits_value_after 10 n (run_of is_digit rest)) cap) same)

-- What one more group at the front says of all groups.
pub record IsOneMore (group v : ℕ) (text rest : List ℕ) : Type 0 where
  pub value : (k : ℕ) → digits_value_after 10 k (threes group text) ≡ digits_value_after 10 (k * 1000 + v) (threes group rest)
  pub some : is_nothing (threes group text) ≡ false
  pub after : past_threes group text ≡ past_threes group rest

one_more : (group s a b c : ℕ) (rest : List ℕ) → (s == group && is_digit a && is_digit b && is_digit c) ≡ true → IsOneMore group (digits_value 10 (a ∷ b ∷ c ∷ [])) (s ∷ a ∷ b ∷ c ∷ rest) rest
one_more group s a b c rest h =
    record {
      value = λ k. rw h (ap (λ n. digits_value_after 10 n (threes group rest)) (weights k (digit_value a) (digit_value b) (digit_value c)));
      some = rw h refl;
      after = rw h refl;
    }
  where
    weights : (k x y z : ℕ) → ((k * 10 + x) * 10 + y) * 10 + z ≡ k * 1000 + (((0 * 10 + x) * 10 + y) * 10 + z)
    weights k x y z = omega arith

pub group_taken : (group v : ℕ) (text rest : List ℕ) → group_at group text ≡ Some (v, rest) → IsOneMore group v text rest
group_taken group v [] rest h = absurd (cc)
group_taken group v (s ∷ []) rest h = absurd (cc)
group_taken group v (s ∷ a ∷ []) rest h = absurd (cc)
group_taken group v (s ∷ a ∷ b ∷ []) rest h = absurd (cc)
group_taken group v (s ∷ a ∷ b ∷ c ∷ after) rest h =
    elim (cases_Bool (s == group && is_digit a && is_digit b && is_digit c)) [
      | inl e ↦
          let same : Some (digits_value 10 (a ∷ b ∷ c ∷ []), after) ≡ Some (v, rest) = rw e at h in
          let pair : (digits_value 10 (a ∷ b ∷ c ∷ []), after) ≡ (v, rest) = cc in
          subst (λ (p : ℕ × List ℕ). IsOneMore group p.0 (s ∷ a ∷ b ∷ c ∷ after) p.1) pair (one_more group s a b c after e)
      | inr e ↦ let none : None ≡ Some (v, rest) = rw e at h in absurd (cc)
    ]

-- where no group stands, there is none
pub group_missing : (group : ℕ) (text : List ℕ) → group_at group text ≡ None → (threes group text ≡ []) × (past_threes group text ≡ text)
group_missing group [] h = (refl, refl)
group_missing group (s ∷ []) h = (refl, refl)
group_missing group (s ∷ a ∷ []) h = (refl, refl)
group_missing group (s ∷ a ∷ b ∷ []) h = (refl, refl)
group_missing group (s ∷ a ∷ b ∷ c ∷ rest) h =
    elim (cases_Bool (s == group && is_digit a && is_digit b && is_digit c)) [
      | inl e ↦ let some : Some (digits_value 10 (a ∷ b ∷ c ∷ []), rest) ≡ None = rw e at h in absurd (cc)
      | inr e ↦ rw e (refl, refl)
    ]

pub within-is : (m cap : ℕ) → m ≤ cap → m ≡ min m cap
within-is m cap h = sym (min-small m cap h)

-- whether there were groups before or there are more
pub or-true : (some none all : Bool) → none ≡ false → (some || not none) ≡ all → true ≡ all
or-true true none all e h = h
or-true false none all e h = let t : not none ≡ all = h in ap not (sym e) ∙ t

pub or-false : (some none all : Bool) → none ≡ true → (some || not none) ≡ all → some ≡ all
or-false true none all e h = h
or-false false none all e h = let t : not none ≡ all = h in ap not (sym e) ∙ t
