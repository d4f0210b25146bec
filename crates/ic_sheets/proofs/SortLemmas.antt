-- Indexes that are put in the order of their ids, all at once.
use Rattle.std.proofs.Common.{◌≡◌, ℕ, MatchOption, zero, suc, ◌+◌, ◌<◌, ◌≤◌, List, [], ◌∷◌, ◌++◌, append-nil, append_assoc, drop, map, option_map, Bool, true, false, cond, Option, Some, None, refl, sym, ap, subst, ◌∙◌, length, get_or, nat_eq, arith}
use Rattle.std.proofs.lemmas.Bool.{eq-eqb, eqb-true}
use Rattle.std.proofs.lemmas.List.{drop_all, drop_more}
use Rattle.std.proofs.lemmas.List.Elements.{Contains-get_or}
use Rattle.std.proofs.lemmas.List.Sorted.{Contains-permutation, IsPermutation-map, IsPermutation-sym}
use Rattle.std.proofs.lemmas.Map.Keys.{IsDistinct-IsPermutation, IsDistinct-head, IsDistinct-tail}
use Rattle.std.specs.Cmp.{nat_eq_equiv}
use Rattle.std.specs.List.{AllAdjacentBelow, AllByRecursion, Contains, IsDistinct}
use Rattle.std.specs.List.Sorted.{IsNonDecreasingBy, IsPermutation}
use Rattle.ic_sheets.specs.Spots.{Rise, index_at, spots_from}
use Rattle.ic_sheets.specs.Search.{index_with_id}
use Rattle.ic_sheets.specs.declared.sheet.Sheet.{Sheet}
use Rattle.ic_sheets.specs.declared.sheets.spots.Spot.{Spot}
use Rattle.ic_sheets.specs.declared.sheets.spots.Spots.{Spots}
use Rattle.ic_sheets.proofs.SearchLemmas.{ids}
use Rattle.ic_sheets.proofs.SpotLemmas.{at_least, found_there, none_there}

abbrev id_in : Spot → ℕ
id_in s = s.id

abbrev Lower : Spot → Spot → Type 0
Lower x y = x.id < y.id

-- ---- whether they rise

pub strictly : (spots : List Spot) (least i j : ℕ) (d : Spot) → Rise least spots → i < j → j < length spots → (get_or spots i d).id < (get_or spots j d).id
strictly [] least i j d r less lt = absurd (omega (arith, lt))
strictly (s ∷ spots) least i zero d r less lt = absurd (omega (arith, less))
strictly (s ∷ spots) least zero (suc j) d r less lt =
    let more = at_least spots (s.id + 1) j d r.1 (omega (arith, lt)) in omega (arith, more)
strictly (s ∷ spots) least (suc i) (suc j) d r less lt = strictly spots (s.id + 1) i j d r.1 (omega (arith, less)) (omega (arith, lt))

pub all_rise : (spots : List Spot) (least : ℕ) → AllAdjacentBelow Lower spots (length spots) → ((d : Spot) → 0 < length spots → least ≤ (get_or spots 0 d).id) → Rise least spots
all_rise [] least each first = tt
all_rise (s ∷ spots) least each first = (
  first s (omega arith),
  all_rise spots (s.id + 1) (λ k d lt.
      let next : suc k + 1 ≡ suc (k + 1) = omega arith in
      subst (λ n. Lower (get_or spots k d) (get_or (s ∷ spots) n d)) next (each (suc k) d (omega (arith, lt))))
      (λ d some. let more = each 0 d (omega (arith, some)) in omega (arith, more)),
)

-- ---- whether their ids differ

higher_differ : (spots : List Spot) (least id : ℕ) → Rise least spots → id < least → AllByRecursion (λ y. nat_eq id y ≡ false) (map id_in spots)
higher_differ [] least id r lt = tt
higher_differ (s ∷ spots) least id r lt = (
  apart (nat_eq id s.id) refl,
  higher_differ spots (s.id + 1) id r.1 (let le = r.0 in omega (arith, le, lt)),
)
  where
    apart : (b : Bool) → nat_eq id s.id ≡ b → nat_eq id s.id ≡ false
    apart true e = let same = eqb-true id s.id e in let le = r.0 in absurd (omega (arith, le, lt, same))
    apart false e = e

risen_differ : (spots : List Spot) (least : ℕ) → Rise least spots → IsDistinct nat_eq (map id_in spots)
unfolding IsDistinct
risen_differ [] least r = tt
risen_differ (s ∷ spots) least r = (higher_differ spots (s.id + 1) s.id r.1 (omega arith), risen_differ spots (s.id + 1) r.1)

differ_rise : (spots : List Spot) (least : ℕ) → IsNonDecreasingBy id_in spots → IsDistinct nat_eq (map id_in spots) → ((d : Spot) → 0 < length spots → least ≤ (get_or spots 0 d).id) → Rise least spots
differ_rise [] least up differ first = tt
differ_rise (s ∷ []) least up differ first = (first s (omega arith), tt)
differ_rise (s ∷ t ∷ spots) least up differ first = (
  first s (omega arith),
  differ_rise (t ∷ spots) (s.id + 1) (λ i j d le lt. up (suc i) (suc j) d (omega (arith, le)) (omega (arith, lt))) (IsDistinct-tail nat_eq s.id (map id_in (t ∷ spots)) differ)
      (λ d some.
      let le : s.id ≤ t.id = up 0 1 d (omega arith) (omega arith) in
      let other = (IsDistinct-head nat_eq s.id (map id_in (t ∷ spots)) differ).0 in
      more le (nat_eq s.id t.id) refl other),
)
  where
    never : true ≡ false → ⊥
    never e = cc

    more : s.id ≤ t.id → (b : Bool) → nat_eq s.id t.id ≡ b → nat_eq s.id t.id ≡ false → s.id + 1 ≤ t.id
    more le true e other = absurd (never (sym e ∙ other))
    more le false e other = step (s.id) (t.id) le e
      where
        step : (a b : ℕ) → a ≤ b → nat_eq a b ≡ false → a + 1 ≤ b
        step a b le e = grind (arith, le, e)

-- ---- a list in another order

module _ (before after : List Spot) (moved : IsPermutation before after) where
  ids_moved : IsPermutation (map id_in before) (map id_in after)
  ids_moved = IsPermutation-map id_in before after moved

  pub differ_before : Rise 0 after → IsDistinct nat_eq (map id_in before)
  differ_before r = IsDistinct-IsPermutation nat_eq nat_eq_equiv.symm (map id_in after) (map id_in before) (IsPermutation-sym (map id_in before) (map id_in after) ids_moved) (risen_differ after 0 r)

  pub rise_after : IsNonDecreasingBy id_in after → IsDistinct nat_eq (map id_in before) → Rise 0 after
  rise_after up differ = differ_rise after 0 up (IsDistinct-IsPermutation nat_eq nat_eq_equiv.symm (map id_in before) (map id_in after) ids_moved differ) (λ d some. omega arith)

  -- one with an id is there
  first_with : (spots : List Spot) (id v : ℕ) → index_at id spots ≡ Some v → (s : Spot) × (Contains spots s × ((s.id ≡ id) × (s.index ≡ v)))
  first_with [] id v e = cc
  first_with (s ∷ spots) id v e = step (first_with spots id v) (nat_eq s.id id) refl e
    where
      step : (index_at id spots ≡ Some v → (x : Spot) × (Contains spots x × ((x.id ≡ id) × (x.index ≡ v)))) → (b : Bool) → nat_eq s.id id ≡ b → cond b (Some s.index) (index_at id spots) ≡ Some v → (x : Spot) × (Contains (s ∷ spots) x × ((x.id ≡ id) × (x.index ≡ v)))
      step more true here found = let is : s.index ≡ v = cc in (s, ((0, omega arith, refl), (eqb-true s.id id here, is)))
      step more false other found =
          let rest = more found in
          let at = rest.1.0 in
          let lt = at.1 in (rest.0, ((suc at.0, omega (arith, lt), at.2), rest.1.1))

  some_with : (spots : List Spot) (k id : ℕ) (d : Spot) → k < length spots → (get_or spots k d).id ≡ id → index_at id spots ≡ None → ⊥
  some_with [] k id d lt e none = absurd (omega (arith, lt))
  some_with (s ∷ spots) zero id d lt e none = no (nat_eq s.id id) (eq-eqb s.id id e) none
    where
      no : (b : Bool) → b ≡ true → cond b (Some s.index) (index_at id spots) ≡ None → ⊥
      no true e none = cc
      no false e none = cc
  some_with (s ∷ spots) (suc k) id d lt e none = no (some_with spots k id d (omega (arith, lt)) e) (nat_eq s.id id) none
    where
      no : (index_at id spots ≡ None → ⊥) → (b : Bool) → cond b (Some s.index) (index_at id spots) ≡ None → ⊥
      no more true none = cc
      no more false none = more none

  -- each id has its index still
  pub found_after : Rise 0 after → (id : ℕ) → index_at id after ≡ index_at id before
  found_after r id = step (index_at id before) refl
    where
      step : (o : Option ℕ) → index_at id before ≡ o → index_at id after ≡ index_at id before
      step (Some v) e =
          let one = first_with before id v e in
          let at = Contains-permutation before after one.0 moved one.1.0 in
          found_there after 0 at.0 id one.0 r at.1 (ap id_in at.2 ∙ one.1.1.0) ∙ ap (λ (s : Spot). Some s.index) at.2 ∙ ap (λ n. Some n) one.1.1.1 ∙ sym e
      step None e =
          none_there after id
          (λ k d lt is.
          let at = Contains-permutation after before (get_or after k d) (IsPermutation-sym before after moved) (Contains-get_or after k d lt) in
          some_with before at.0 id (get_or after k d) at.1 (ap id_in at.2 ∙ is) e)
          ∙ sym e

-- ---- the indexes of sheets

pub listed_next : (sheets : List Sheet) (total all after : List Spot) (i : ℕ) (s : Sheet) → i < length sheets → s ≡ get_or sheets i s → all ++ spots_from i (drop i sheets) ≡ total → after ≡ all ++ record { id = s.id; index = i } ∷ []
    → after ++ spots_from (i + 1) (drop (i + 1) sheets) ≡ total
listed_next sheets total all after i s lt read done put =
    let one : Spot = record { id = s.id; index = i } in
    let rest : List Spot = spots_from (i + 1) (drop (i + 1) sheets) in
    ap (λ (xs : List Spot). xs ++ rest) put ∙ append_assoc all (one ∷ []) rest
    ∙ ap (λ (xs : List Sheet). all ++ spots_from i xs) (sym (drop_more sheets i s lt ∙ ap (λ (x : Sheet). x ∷ drop (i + 1) sheets) (sym read))) ∙ done

pub listed_end : (sheets : List Sheet) (total all : List Spot) (i : ℕ) → length sheets ≤ i → all ++ spots_from i (drop i sheets) ≡ total → all ≡ total
listed_end sheets total all i end done = sym (append-nil all) ∙ ap (λ (xs : List Sheet). all ++ spots_from i xs) (sym (drop_all i sheets end)) ∙ done

pub listed_ids : (i : ℕ) (sheets : List Sheet) → map id_in (spots_from i sheets) ≡ ids sheets
listed_ids i [] = refl
listed_ids i (s ∷ sheets) = ap (λ ns. s.id ∷ ns) (listed_ids (i + 1) sheets)

listed_from : (i id : ℕ) (sheets : List Sheet) → index_at id (spots_from i sheets) ≡ option_map (λ k. i + k) (index_with_id id sheets)
listed_from i id [] = refl
listed_from i id (s ∷ sheets) = step (nat_eq s.id id) (index_with_id id sheets) (listed_from (i + 1) id sheets)
  where
    step : (b : Bool) (o : Option ℕ) → index_at id (spots_from (i + 1) sheets) ≡ option_map (λ k. i + 1 + k) o
        → cond b (Some i) (index_at id (spots_from (i + 1) sheets)) ≡ option_map (λ k. i + k) (cond b (Some 0) (option_map suc o))
    step true o e = ap (λ n. Some n) (let same : i ≡ i + 0 = omega arith in same)
    step false None e = e
    step false (Some k) e = e ∙ ap (λ n. Some n) (let same : i + 1 + k ≡ i + suc k = omega arith in same)

pub listed_at : (id : ℕ) (sheets : List Sheet) → index_at id (spots_from 0 sheets) ≡ index_with_id id sheets
listed_at id sheets = listed_from 0 id sheets ∙ step (index_with_id id sheets)
  where
    step : (o : Option ℕ) → option_map (λ k. 0 + k) o ≡ o
    step None = refl
    step (Some k) = ap (λ n. Some n) (let same : 0 + k ≡ k = omega arith in same)

-- what is made of the list of them
pub made_of : (sheets : List Sheet) (listed : List Spot) (made : Option Spots) → listed ≡ spots_from 0 sheets
    → MatchOption made (IsDistinct nat_eq (map (λ (s : Spot). s.id) listed) → ⊥) (λ spots. IsDistinct nat_eq (map (λ (s : Spot). s.id) listed) × ((id : ℕ) → index_at id spots.list.items ≡ index_at id listed))
    → MatchOption made (IsDistinct nat_eq (ids sheets) → ⊥) (λ spots. IsDistinct nat_eq (ids sheets) × ((id : ℕ) → index_at id spots.list.items ≡ index_with_id id sheets))
made_of sheets listed None is made = λ differ. made (subst (IsDistinct nat_eq) (sym (ap (map id_in) is ∙ listed_ids 0 sheets)) differ)
made_of sheets listed (Some spots) is made = (
  subst (IsDistinct nat_eq) (ap (map id_in) is ∙ listed_ids 0 sheets) made.0,
  λ id. made.1 id ∙ ap (index_at id) is ∙ listed_at id sheets,
)
