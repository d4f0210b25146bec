-- The indexes of sheets by their ids: how one is found where the ids rise, and what becomes of all as one comes or goes.
use Rattle.std.proofs.Common.{◌≡◌, ℕ, zero, suc, ◌+◌, ◌-◌, ◌<◌, ◌≤◌, List, [], ◌∷◌, map, Bool, true, false, cond, Option, Some, None, option_map, refl, sym, ap, subst, ◌∙◌, length, get_or, nat_eq, nat_lt, arith}
use Rattle.std.proofs.lemmas.List.{get_or_default}
use Rattle.std.specs.List.{AllWithin, insert, remove, slice_get, slice_set}
use Rattle.std.specs.List.Sorted.{IsNonDecreasingBy}
use Rattle.std.proofs.lemmas.Bool.{eq-eqb, eqb-true, ltb-false, ltb-true}
use Rattle.ic_laws.specs.Greatest.{greatest}
use Rattle.ic_sheets.specs.Spots.{Rise, index_at, with_indexes}
use Rattle.ic_sheets.specs.declared.sheets.spots.Spot.{Spot}
use Rattle.ic_laws.proofs.General.{either_order as swap_choices}

apart : (a b : ℕ) → (a ≡ b → ⊥) → nat_eq a b ≡ false
apart a b h = step (nat_eq a b) refl
  where
    step : (c : Bool) → nat_eq a b ≡ c → nat_eq a b ≡ false
    step true e = absurd (h (eqb-true a b e))
    step false e = e

-- ---- one is found

pub at_least : (spots : List Spot) (least k : ℕ) (d : Spot) → Rise least spots → k < length spots → least ≤ (get_or spots k d).id
at_least [] least k d r lt = absurd (omega (arith, lt))
at_least (s ∷ spots) least zero d r lt = r.0
at_least (s ∷ spots) least (suc k) d r lt =
    let more = at_least spots (s.id + 1) k d r.1 (omega (arith, lt)) in omega (arith, more, r.0)

pub rising : (spots : List Spot) (least : ℕ) → Rise least spots → IsNonDecreasingBy (λ (s : Spot). s.id) spots
rising [] least r i j d le lt = absurd (omega (arith, lt))
rising (s ∷ spots) least r zero zero d le lt = omega arith
rising (s ∷ spots) least r zero (suc j) d le lt =
    let more = at_least spots (s.id + 1) j d r.1 (omega (arith, lt)) in omega (arith, more)
rising (s ∷ spots) least r (suc i) zero d le lt = absurd (omega (arith, le))
rising (s ∷ spots) least r (suc i) (suc j) d le lt = rising spots (s.id + 1) r.1 i j d (omega (arith, le)) (omega (arith, lt))

pub found_there : (spots : List Spot) (least k id : ℕ) (d : Spot) → Rise least spots → k < length spots → (get_or spots k d).id ≡ id → index_at id spots ≡ Some (get_or spots k d).index
found_there [] least k id d r lt e = absurd (omega (arith, lt))
found_there (s ∷ spots) least zero id d r lt e = ap (λ b. cond b (Some s.index) (index_at id spots)) (eq-eqb s.id id e)
found_there (s ∷ spots) least (suc k) id d r lt e =
    let more = at_least spots (s.id + 1) k d r.1 (omega (arith, lt)) in
    ap (λ b. cond b (Some s.index) (index_at id spots)) (apart s.id id (λ same. omega (arith, more, e, same)))
    ∙ found_there spots (s.id + 1) k id d r.1 (omega (arith, lt)) e

pub none_there : (spots : List Spot) (id : ℕ) → ((k : ℕ) (d : Spot) → k < length spots → (get_or spots k d).id ≡ id → ⊥) → index_at id spots ≡ None
none_there [] id none = refl
none_there (s ∷ spots) id none =
    ap (λ b. cond b (Some s.index) (index_at id spots)) (apart s.id id (none 0 s (omega arith)))
    ∙ none_there spots id (λ k d lt e. none (suc k) d (omega (arith, lt)) e)

-- where the first that isn't lower is another, none has it
pub other_there : (spots : List Spot) (least k id : ℕ) (e : Spot) → Rise least spots → k < length spots → AllWithin (λ (x : Spot). x.id < id) spots 0 k → AllWithin (λ (x : Spot). id ≤ x.id) spots k (length spots) → ((get_or spots k e).id ≡ id → ⊥) → index_at id spots ≡ None
other_there spots least k id e r within below above other = none_there spots id (λ j d lt is. step j d lt is (nat_lt j k) refl)
  where
    step : (j : ℕ) (d : Spot) → j < length spots → (get_or spots j d).id ≡ id → (b : Bool) → nat_lt j k ≡ b → ⊥
    step j d lt is true before = let less = below j d (omega arith) (ltb-true j k before) in omega (arith, less, is)
    step j d lt is false after =
        let more = rising spots least r k j d (ltb-false j k after) lt in
        let not_less = above k d (omega arith) within in
        let here : (get_or spots k d).id ≡ id = omega (arith, more, is, not_less) in
        other (ap (λ (x : Spot). x.id) (get_or_default spots k e d within) ∙ here)

-- no lower one
lower_none : (spots : List Spot) (least id : ℕ) → Rise least spots → id < least → index_at id spots ≡ None
lower_none spots least id r lt =
    none_there spots id (λ k d within e. let le = at_least spots least k d r within in omega (arith, le, lt, e))

-- ---- one comes

pub put_rises : (spots : List Spot) (least k : ℕ) (s : Spot) → Rise least spots → least ≤ s.id → k ≤ length spots → AllWithin (λ (x : Spot). x.id < s.id) spots 0 k → AllWithin (λ (x : Spot). s.id < x.id) spots k (length spots)
    → Rise least (insert spots k s)
put_rises [] least zero s r le within below above = (le, tt)
put_rises [] least (suc k) s r le within below above = absurd (omega (arith, within))
put_rises (x ∷ spots) least zero s r le within below above =
    let less : s.id < x.id = above 0 x (omega arith) (omega arith) in (le, (omega (arith, less), r.1))
put_rises (x ∷ spots) least (suc k) s r le within below above =
    let less : x.id < s.id = below 0 x (omega arith) (omega arith) in (
      r.0,
      put_rises spots (x.id + 1) k s r.1 (omega (arith, less)) (omega (arith, within))
          (λ j d from lt. below (suc j) d (omega (arith, from)) (omega (arith, lt)))
          (λ j d from lt. above (suc j) d (omega (arith, from)) (omega (arith, lt))),
    )

pub put_found : (spots : List Spot) (k : ℕ) (s : Spot) → k ≤ length spots → AllWithin (λ (x : Spot). x.id < s.id) spots 0 k → (q : ℕ) → index_at q (insert spots k s) ≡ cond (nat_eq s.id q) (Some s.index) (index_at q spots)
put_found [] zero s within below q = refl
put_found [] (suc k) s within below q = absurd (omega (arith, within))
put_found (x ∷ spots) zero s within below q = refl
put_found (x ∷ spots) (suc k) s within below q =
    let less : x.id < s.id = below 0 x (omega arith) (omega arith) in
    ap (cond (nat_eq x.id q) (Some x.index))
    (put_found spots k s (omega (arith, within)) (λ j d from lt. below (suc j) d (omega (arith, from)) (omega (arith, lt))) q)
    ∙ swap_choices (nat_eq x.id q) (nat_eq s.id q) (Some x.index) (Some s.index) (index_at q spots)
    (λ t u. let a = eqb-true x.id q t in let b = eqb-true s.id q u in omega (arith, a, b, less))

-- where the id has none, those that aren't lower are higher
pub all_higher : (spots : List Spot) (least k id : ℕ) → Rise least spots → index_at id spots ≡ None → AllWithin (λ (x : Spot). id ≤ x.id) spots k (length spots) → AllWithin (λ (x : Spot). id < x.id) spots k (length spots)
all_higher spots least k id r none above j d from lt =
    let le : id ≤ (get_or spots j d).id = above j d from lt in
    let differ : (get_or spots j d).id ≡ id → ⊥ = λ same. no (get_or spots j d).index (sym (found_there spots least j id d r lt same) ∙ none) in
    less id (get_or spots j d).id le differ
  where
    no : (n : ℕ) → Some n ≡ None → ⊥
    no n e = cc

    less : (a b : ℕ) → a ≤ b → (b ≡ a → ⊥) → a < b
    less a b le differ = step (nat_eq b a) refl
      where
        step : (c : Bool) → nat_eq b a ≡ c → a < b
        step true e = absurd (differ (eqb-true b a e))
        step false e = grind (arith, le, e)

-- ---- one goes

from_lower : (spots : List Spot) (least lower : ℕ) → lower ≤ least → Rise least spots → Rise lower spots
from_lower [] least lower le r = tt
from_lower (s ∷ spots) least lower le r = (omega (arith, le, r.0), r.1)

pub out_rises : (spots : List Spot) (least k : ℕ) → Rise least spots → Rise least (remove spots k)
out_rises [] least zero r = tt
out_rises [] least (suc k) r = tt
out_rises (s ∷ spots) least zero r = from_lower spots (s.id + 1) least (omega (arith, r.0)) r.1
out_rises (s ∷ spots) least (suc k) r = (r.0, out_rises spots (s.id + 1) k r.1)

pub out_found : (spots : List Spot) (least k id : ℕ) (d : Spot) → Rise least spots → k < length spots → (get_or spots k d).id ≡ id → (q : ℕ) → index_at q (remove spots k) ≡ cond (nat_eq id q) None (index_at q spots)
out_found [] least k id d r lt e q = absurd (omega (arith, lt))
out_found (s ∷ spots) least zero id d r lt e q = step (nat_eq id q) refl
  where
    step : (b : Bool) → nat_eq id q ≡ b → index_at q spots ≡ cond b None (cond (nat_eq s.id q) (Some s.index) (index_at q spots))
    step true same = let is = eqb-true id q same in lower_none spots (s.id + 1) q r.1 (omega (arith, is, e))
    step false other = sym (ap (λ b. cond b (Some s.index) (index_at q spots)) (ap (λ n. nat_eq n q) e ∙ other))
out_found (s ∷ spots) least (suc k) id d r lt e q =
    let more = at_least spots (s.id + 1) k d r.1 (omega (arith, lt)) in
    ap (cond (nat_eq s.id q) (Some s.index)) (out_found spots (s.id + 1) k id d r.1 (omega (arith, lt)) e q)
    ∙ swap_choices (nat_eq s.id q) (nat_eq id q) (Some s.index) None (index_at q spots)
    (λ t u. let a = eqb-true s.id q t in let b = eqb-true id q u in omega (arith, a, b, more, e))

-- ---- one gets another index

-- the same spot with another index
abbrev with_index : Spot → ℕ → Spot
with_index s n = record s { index = n }

-- what is found after this index was put in at an id, if that is the id that is looked for
abbrev pub replaced : Bool → ℕ → Option ℕ → Option ℕ
replaced same n found = cond same (option_map (λ (had : ℕ). n) found) found

pub replaced_rises : (spots : List Spot) (least k n : ℕ) (s : Spot) → Rise least spots → k < length spots → s ≡ get_or spots k s
    → Rise least (slice_set spots k (with_index s n))
replaced_rises [] least k n s r lt read = tt
replaced_rises (x ∷ spots) least zero n s r lt read =
    let same : x.id ≡ s.id = cc in (subst (λ id. least ≤ id) same r.0, subst (λ id. Rise (id + 1) spots) same r.1)
replaced_rises (x ∷ spots) least (suc k) n s r lt read = (r.0, replaced_rises spots (x.id + 1) k n s r.1 (omega (arith, lt)) read)

pub replaced_found : (spots : List Spot) (least k n id : ℕ) (s : Spot) → Rise least spots → k < length spots → s ≡ get_or spots k s → s.id ≡ id
    → (q : ℕ) → index_at q (slice_set spots k (with_index s n)) ≡ replaced (nat_eq id q) n (index_at q spots)
replaced_found [] least k n id s r lt read e q = absurd (omega (arith, lt))
replaced_found (x ∷ spots) least zero n id s r lt read e q =
    let first : x.id ≡ id = cc in
    ap (λ i. cond (nat_eq i q) (Some n) (index_at q spots)) e ∙ step (nat_eq id q) (index_at q spots)
    ∙ ap (λ i. replaced (nat_eq id q) n (cond (nat_eq i q) (Some x.index) (index_at q spots))) (sym first)
  where
    step : (b : Bool) (rest : Option ℕ) → cond b (Some n) rest ≡ replaced b n (cond b (Some x.index) rest)
    step true rest = refl
    step false rest = refl
replaced_found (x ∷ spots) least (suc k) n id s r lt read e q =
    let more = at_least spots (x.id + 1) k s r.1 (omega (arith, lt)) in
    let there : (get_or spots k s).id ≡ id = ap (λ (z : Spot). z.id) (sym read) ∙ e in
    ap (cond (nat_eq x.id q) (Some x.index)) (replaced_found spots (x.id + 1) k n id s r.1 (omega (arith, lt)) read e q)
    ∙ step (nat_eq x.id q) (nat_eq id q) (index_at q spots)
    (λ t u. let a = eqb-true x.id q t in let b = eqb-true id q u in omega (arith, a, b, more, there))
  where
    step : (t b : Bool) (rest : Option ℕ) → (t ≡ true → b ≡ true → ⊥) → cond t (Some x.index) (replaced b n rest) ≡ replaced b n (cond t (Some x.index) rest)
    step true true rest h = absurd (h refl refl)
    step true false rest h = refl
    step false true rest h = refl
    step false false rest h = refl

-- where the id has none
pub none_replaced : (spots : List Spot) (n id : ℕ) → index_at id spots ≡ None → (q : ℕ) → index_at q spots ≡ replaced (nat_eq id q) n (index_at q spots)
none_replaced spots n id none q = step (nat_eq id q) refl
  where
    step : (b : Bool) → nat_eq id q ≡ b → index_at q spots ≡ replaced b n (index_at q spots)
    step true same =
        let is : index_at q spots ≡ None = ap (λ i. index_at i spots) (sym (eqb-true id q same)) ∙ none in
        is ∙ ap (option_map (λ (had : ℕ). n)) (sym is)
    step false other = refl

-- ---- all change

pub changed_rise : (f : ℕ → ℕ) (spots : List Spot) (least : ℕ) → Rise least spots → Rise least (with_indexes f spots)
changed_rise f [] least r = tt
changed_rise f (s ∷ spots) least r = (r.0, changed_rise f spots (s.id + 1) r.1)

pub changed_found : (f : ℕ → ℕ) (spots : List Spot) (q : ℕ) → index_at q (with_indexes f spots) ≡ option_map f (index_at q spots)
changed_found f [] q = refl
changed_found f (s ∷ spots) q = step (nat_eq s.id q) (changed_found f spots q)
  where
    step : (b : Bool) → index_at q (with_indexes f spots) ≡ option_map f (index_at q spots) → cond b (Some (f s.index)) (index_at q (with_indexes f spots)) ≡ option_map f (cond b (Some s.index) (index_at q spots))
    step true rest = refl
    step false rest = rest

-- the last has the greatest id
pub last_greatest : (spots : List Spot) (least n : ℕ) (s : Spot) → Rise least spots → n + 1 ≡ length spots → slice_get spots n ≡ Some s → s.id ≡ greatest (map (λ (x : Spot). x.id) spots)
last_greatest [] least n s r count last = cc
last_greatest (x ∷ []) least zero s r count last = let same : x ≡ s = cc in let is : x.id ≡ s.id = ap (λ (y : Spot). y.id) same in omega (arith, is)
last_greatest (x ∷ y ∷ spots) least zero s r count last = absurd (omega (arith, count))
last_greatest (x ∷ spots) least (suc n) s r count last =
    let rest = last_greatest spots (x.id + 1) n s r.1 (omega (arith, count)) last in
    let more : x.id + 1 ≤ (get_or spots n s).id = at_least spots (x.id + 1) n s r.1 (omega (arith, count)) in
    let is : s.id ≡ (get_or spots n s).id = ap (λ (z : Spot). z.id) (got spots n s last) in
    omega (arith, rest, more, is)
  where
    got : (xs : List Spot) (k : ℕ) (z : Spot) → slice_get xs k ≡ Some z → z ≡ get_or xs k z
    got [] k z e = cc
    got (w ∷ xs) zero z e = let same : w ≡ z = cc in sym same
    got (w ∷ xs) (suc k) z e = got xs k z e

pub greatest_of_last : (spots : List Spot) (s : Spot) → Rise 0 spots → slice_get spots (length spots - 1) ≡ Some s → s.id ≡ greatest (map (λ (x : Spot). x.id) spots)
greatest_of_last [] s r last = cc
greatest_of_last (x ∷ spots) s r last = last_greatest (x ∷ spots) 0 (length (x ∷ spots) - 1) s r (omega arith) last

pub greatest_of_none : (spots : List Spot) → slice_get spots (length spots - 1) ≡ None → 0 ≡ greatest (map (λ (x : Spot). x.id) spots)
greatest_of_none [] none = refl
greatest_of_none (x ∷ spots) none = absurd (within (x ∷ spots) (length (x ∷ spots) - 1) (omega arith) none)
  where
    within : (xs : List Spot) (k : ℕ) → k < length xs → slice_get xs k ≡ None → ⊥
    within [] k lt none = absurd (omega (arith, lt))
    within (y ∷ xs) zero lt none = cc
    within (y ∷ xs) (suc k) lt none = within xs k (omega (arith, lt)) none
