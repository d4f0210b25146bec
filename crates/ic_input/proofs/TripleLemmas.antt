-- Digits in threes, as they are read from the first group on.
use Rattle.std.proofs.Common.{◌≡◌, ℕ, suc, ◌%◌, ◌<◌, ◌≤◌, List, [], ◌∷◌, ◌++◌, Bool, true, false, ◌&&◌, ◌==◌, nat_lt, length, refl, ap, inl, inr, arith}
use Rattle.std.specs.Str.{all_ascii_digits}
use Rattle.std.proofs.lemmas.Bool.{and_from, and_parts, cases_Bool, eqb-true}
use Rattle.std.proofs.lemmas.Bool.Decides.{nat_tests}
use Rattle.ic_laws.specs.Scan.{is_digit}
use Rattle.ic_input.specs.Group.{in_threes, past_threes, threes}

-- groups of three, each after the separator
abbrev pub separated : ℕ → List ℕ → List ℕ
separated group (a ∷ b ∷ c ∷ rest) = group ∷ a ∷ b ∷ c ∷ separated group rest
separated group rest = []

-- so many digits that they fall into threes
abbrev pub IsTriples : List ℕ → Type 0
IsTriples (a ∷ b ∷ c ∷ rest) = IsTriples rest
IsTriples (a ∷ b ∷ []) = ⊥
IsTriples (a ∷ []) = ⊥
IsTriples [] = Unit {0}

triples_length : (ds : List ℕ) → IsTriples ds → length ds % 3 ≡ 0
triples_length [] h = refl
triples_length (a ∷ []) h = absurd h
triples_length (a ∷ b ∷ []) h = absurd h
triples_length (a ∷ b ∷ c ∷ rest) h = let t = triples_length rest h in omega arith

-- where a separator stands: before three, six, nine .. digits
abbrev stands : ℕ → Bool
stands k = nat_lt 0 k && k % 3 == 0

stands_three : (k : ℕ) → k % 3 ≡ 0 → stands (suc (suc (suc k))) ≡ true
stands_three k h = grind (arith, nat_tests)

stands_two : (k : ℕ) → k % 3 ≡ 0 → stands (suc (suc k)) ≡ false
stands_two k h = grind (arith, nat_tests)

stands_one : (k : ℕ) → k % 3 ≡ 0 → stands (suc k) ≡ false
stands_one k h = grind (arith, nat_tests)

-- after one digit that groups of three follow
blocks : (group c : ℕ) (ds : List ℕ) → IsTriples ds → in_threes group (c ∷ ds) ≡ c ∷ separated group ds
blocks group c [] h = refl
blocks group c (x ∷ []) h = absurd h
blocks group c (x ∷ y ∷ []) h = absurd h
blocks group c (x ∷ y ∷ z ∷ rest) h =
    let n = triples_length rest h in
    rw (stands_three (length rest) n, stands_two (length rest) n, stands_one (length rest) n)
    (ap (λ t. c ∷ group ∷ x ∷ y ∷ t) (blocks group z rest h))

-- A number's digits as a first group of one to three and groups of three.
pub record Split (whole : List ℕ) : Type 0 where
  pub first : List ℕ
  pub more : List ℕ
  pub joined : whole ≡ first ++ more
  pub some : 0 < length first
  pub few : length first ≤ 3
  pub triples : IsTriples more

split_one : (c : ℕ) (cs : List ℕ) → Split cs → Split (c ∷ cs)
split_one c cs s = go s.first s.more s.joined s.some s.few s.triples
  where
    go : (first more : List ℕ) → cs ≡ first ++ more → 0 < length first → length first ≤ 3 → IsTriples more → Split (c ∷ cs)
    go [] more e some few t = absurd (omega arith)
    go (x ∷ []) more e some few t = record { first = c ∷ x ∷ []; more = more; joined = ap (λ ds. c ∷ ds) e; some = omega arith; few = omega arith; triples = t }
    go (x ∷ y ∷ []) more e some few t = record { first = c ∷ x ∷ y ∷ []; more = more; joined = ap (λ ds. c ∷ ds) e; some = omega arith; few = omega arith; triples = t }
    go (x ∷ y ∷ z ∷ []) more e some few t = record { first = c ∷ []; more = x ∷ y ∷ z ∷ more; joined = ap (λ ds. c ∷ ds) e; some = omega arith; few = omega arith; triples = t }
    go (w ∷ x ∷ y ∷ z ∷ ds) more e some few t = absurd (omega arith)

pub split : (whole : List ℕ) → 0 < length whole → Split whole
split [] h = absurd (omega arith)
split (c ∷ []) h = record { first = c ∷ []; more = []; joined = refl; some = omega arith; few = omega arith; triples = tt }
split (c ∷ d ∷ ds) h = split_one c (d ∷ ds) (split (d ∷ ds) (omega arith))

-- a first group, and groups of three after separators, are the digits in threes
pub in_threes-groups : (group : ℕ) (first more : List ℕ) → 0 < length first → length first ≤ 3 → IsTriples more → in_threes group (first ++ more) ≡ first ++ separated group more
in_threes-groups group [] more some few t = absurd (omega arith)
in_threes-groups group (x ∷ []) more some few t = blocks group x more t
in_threes-groups group (x ∷ y ∷ []) more some few t =
    rw (stands_one (length more) (triples_length more t)) (ap (λ ds. x ∷ ds) (blocks group y more t))
in_threes-groups group (x ∷ y ∷ z ∷ []) more some few t =
    rw (stands_two (length more) (triples_length more t), stands_one (length more) (triples_length more t)) (ap (λ ds. x ∷ y ∷ ds) (blocks group z more t))
in_threes-groups group (w ∷ x ∷ y ∷ z ∷ ds) more some few t = absurd (omega arith)

-- What is read of groups of three: they, and what stands after them.
pub record ReadsGroups (group : ℕ) (text more tail : List ℕ) : Type 0 where
  pub groups : threes group text ≡ more
  pub rest : past_threes group text ≡ tail

pub groups_read : (group : ℕ) (more tail : List ℕ) → IsTriples more → all_ascii_digits more ≡ true → ReadsGroups group tail [] tail → ReadsGroups group (separated group more ++ tail) more tail
groups_read group [] tail t d none = none
groups_read group (a ∷ []) tail t d none = absurd t
groups_read group (a ∷ b ∷ []) tail t d none = absurd t
groups_read group (a ∷ b ∷ c ∷ more) tail t d none =
    let p = and_parts (is_digit a) _ d in
    let q = and_parts (is_digit b) _ p.1 in
    let r = and_parts (is_digit c) _ q.1 in
    let same : (group == group) ≡ true = grind (arith, nat_tests) in
    let test : (group == group && is_digit a && is_digit b && is_digit c) ≡ true = and_from _ _ (and_from _ _ (and_from _ _ same p.0) q.0) r.0 in
    let rest = groups_read group more tail t r.1 none in
    record {
      groups = rw test (ap (λ ds. a ∷ b ∷ c ∷ ds) rest.groups);
      rest = rw test rest.rest;
    }

-- What the groups at the front of a text are.
pub record AreTriples (group : ℕ) (text : List ℕ) : Type 0 where
  pub triples : IsTriples (threes group text)
  pub digits : all_ascii_digits (threes group text) ≡ true
  pub whole : text ≡ separated group (threes group text) ++ past_threes group text

one_triple : (group s a b c : ℕ) (rest : List ℕ) → (s == group && is_digit a && is_digit b && is_digit c) ≡ true → AreTriples group rest → AreTriples group (s ∷ a ∷ b ∷ c ∷ rest)
one_triple group s a b c rest test more =
    let p = and_parts (s == group && is_digit a && is_digit b) (is_digit c) test in
    let q = and_parts (s == group && is_digit a) (is_digit b) p.0 in
    let r = and_parts (s == group) (is_digit a) q.0 in
    let same : s ≡ group = eqb-true s group r.0 in
    record {
      triples = rw test more.triples;
      digits = rw test (and_from _ _ r.1 (and_from _ _ q.1 (and_from _ _ p.1 more.digits)));
      whole = rw test (rw (← same) (ap (λ t. s ∷ a ∷ b ∷ c ∷ t) more.whole));
    }

pub are_triples : (group : ℕ) (text : List ℕ) → AreTriples group text
are_triples group [] = record { triples = tt; digits = refl; whole = refl }
are_triples group (s ∷ []) = record { triples = tt; digits = refl; whole = refl }
are_triples group (s ∷ a ∷ []) = record { triples = tt; digits = refl; whole = refl }
are_triples group (s ∷ a ∷ b ∷ []) = record { triples = tt; digits = refl; whole = refl }
are_triples group (s ∷ a ∷ b ∷ c ∷ rest) =
    elim (cases_Bool (s == group && is_digit a && is_digit b && is_digit c)) [
      | inl e ↦ one_triple group s a b c rest e (are_triples group rest)
      | inr e ↦ record { triples = rw e tt; digits = rw e refl; whole = rw e refl }
    ]
