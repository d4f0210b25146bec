-- Where the sheets stand by their ids, as sheets come, go and move, and that a look-up keeps up with it.
use Rattle.std.proofs.Common.{◌≡◌, ℕ, suc, ◌<◌, ◌≤◌, ◌+◌, List, [], ◌∷◌, ◌++◌, Bool, true, false, cond, ◌||◌, Option, Some, None, option_map, is_some, map, max, refl, sym, ap, ap₂, subst, ◌∙◌, length, take, drop, get_or, nat_eq, remove, arith}
use Rattle.std.specs.Cmp.{nat_eq_equiv}
use Rattle.std.specs.List.{AllByRecursion, IsDistinct, find, insert, list_any, position, slice_get}
use Rattle.std.specs.Option.{option_and_then}
use Rattle.std.proofs.lemmas.Bool.{eq-eqb, eqb-true, or_parts}
use Rattle.std.proofs.lemmas.Iterator.Adapters.{position_from-zero}
use Rattle.std.proofs.lemmas.List.{length-take, take-append-drop}
use Rattle.std.proofs.lemmas.List.Sorted.{IsPermutation-map, IsPermutation-middle}
use Rattle.std.proofs.lemmas.Map.Keys.{IsDistinct-IsPermutation, IsDistinct-head}
use Rattle.ic_laws.specs.Greatest.{greatest}
use Rattle.ic_sheets.specs.Index.{AreAtIndexes}
use Rattle.ic_sheets.specs.Search.{index_with_id}
use Rattle.ic_sheets.specs.Spots.{index_at, lowered, moved_index, raised, renumbered}
use Rattle.ic_sheets.specs.declared.sheet.Sheet.{Sheet}
use Rattle.ic_sheets.specs.declared.sheets.spots.Spot.{Spot}
use Rattle.ic_sheets.specs.declared.sheets.spots.Spots.{Spots}
use Rattle.ic_sheets.proofs.IndexLemmas.{split_at}
use Rattle.ic_sheets.proofs.SearchLemmas.{ids}
use Rattle.ic_sheets.proofs.SpotLemmas.{replaced}
use Rattle.ic_pool.proofs.KeyLemmas.{clash}
use Rattle.ic_laws.proofs.General.{counted_later, swap_places as either_first}

-- ---- the plain search

abbrev has_id : ℕ → Sheet → Bool
has_id id s = nat_eq s.id id

position_step : (id : ℕ) (s : Sheet) (sheets : List Sheet) → position (has_id id) (s ∷ sheets) ≡ cond (nat_eq s.id id) (Some 0) (option_map suc (position (has_id id) sheets))
position_step id s sheets =
    position_from-zero (has_id id) (s ∷ sheets) ∙ ap (cond (nat_eq s.id id) (Some 0)) (counted_later (has_id id) 0 sheets ∙ ap (option_map suc) (sym (position_from-zero (has_id id) sheets)))

pub place_is : (id : ℕ) (sheets : List Sheet) → index_with_id id sheets ≡ position (λ s. nat_eq s.id id) sheets
place_is id [] = refl
place_is id (s ∷ sheets) = ap (λ o. cond (nat_eq s.id id) (Some 0) (option_map suc o)) (place_is id sheets) ∙ sym (position_step id s sheets)

first_there : (id : ℕ) (sheets : List Sheet) → option_and_then (slice_get sheets) (index_with_id id sheets) ≡ find (λ s. nat_eq s.id id) sheets
first_there id [] = refl
first_there id (s ∷ sheets) = step (nat_eq s.id id) (index_with_id id sheets) (first_there id sheets)
  where
    step : (b : Bool) (place : Option ℕ) → option_and_then (slice_get sheets) place ≡ find (has_id id) sheets → option_and_then (slice_get (s ∷ sheets)) (cond b (Some 0) (option_map suc place)) ≡ cond b (Some s) (find (has_id id) sheets)
    step true place e = refl
    step false None e = e
    step false (Some n) e = e

-- the sheet at the place that was found is the one with the id
pub first_at : (id : ℕ) (sheets : List Sheet) (place : Option ℕ) → place ≡ position (λ s. nat_eq s.id id) sheets → option_and_then (slice_get sheets) place ≡ find (λ s. nat_eq s.id id) sheets
first_at id sheets place e = ap (option_and_then (slice_get sheets)) (e ∙ sym (place_is id sheets)) ∙ first_there id sheets

-- ---- the look-up

pub placed_empty : (indexes : Spots) (sheets : List Sheet) → indexes.list.items ≡ [] → sheets ≡ [] → AreAtIndexes indexes sheets
placed_empty indexes sheets empty none = subst (AreAtIndexes indexes) (sym none) (record { finds = λ id. ap (index_at id) empty })

-- other formulas and names
same_place : (xs ys : List Sheet) → ids xs ≡ ids ys → (id : ℕ) → index_with_id id xs ≡ index_with_id id ys
same_place [] [] e id = refl
same_place [] (y ∷ ys) e id = cc
same_place (x ∷ xs) [] e id = cc
same_place (x ∷ xs) (y ∷ ys) e id =
    let first : x.id ≡ y.id = cc in
    let others : ids xs ≡ ids ys = cc in
    ap₂ (λ k place. cond (nat_eq k id) (Some 0) (option_map suc place)) first (same_place xs ys others id)

pub placed_same : (indexes : Spots) (sheets list : List Sheet) → AreAtIndexes indexes sheets → ids list ≡ ids sheets → AreAtIndexes indexes list
placed_same indexes sheets list placed same = record { finds = λ id. placed.finds id ∙ sym (same_place list sheets same id) }

-- ---- a sheet comes

no_place : (id : ℕ) (sheets : List Sheet) → list_any (nat_eq id) (ids sheets) ≡ false → index_with_id id sheets ≡ None
no_place id [] e = refl
no_place id (s ∷ sheets) e =
    let parts = or_parts (nat_eq id s.id) (list_any (nat_eq id) (ids sheets)) e in
    ap₂ (λ b place. cond b (Some 0) (option_map suc place)) (nat_eq_equiv.symm s.id id ∙ parts.0) (no_place id sheets parts.1)

place_pushed : (s : Sheet) (sheets : List Sheet) → list_any (nat_eq s.id) (ids sheets) ≡ false → (q : ℕ) → index_with_id q (sheets ++ s ∷ []) ≡ cond (nat_eq s.id q) (Some (length sheets)) (index_with_id q sheets)
place_pushed s [] free q = refl
place_pushed s (x ∷ sheets) free q =
    let parts = or_parts (nat_eq s.id x.id) (list_any (nat_eq s.id) (ids sheets)) free in
    ap (λ place. cond (nat_eq x.id q) (Some 0) (option_map suc place)) (place_pushed s sheets parts.1 q)
    ∙ either_first (nat_eq x.id q) (nat_eq s.id q) (length sheets) (index_with_id q sheets)
    (λ t u. clash (nat_eq s.id x.id) (eq-eqb s.id x.id (eqb-true s.id q u ∙ sym (eqb-true x.id q t))) parts.0)

pub placed_pushed : (before after : Spots) (sheets list : List Sheet) (s : Sheet) (at : ℕ) → AreAtIndexes before sheets → list_any (nat_eq s.id) (ids sheets) ≡ false → at ≡ length sheets
    → ((q : ℕ) → index_at q after.list.items ≡ cond (nat_eq s.id q) (Some at) (index_at q before.list.items)) → list ≡ sheets ++ s ∷ [] → AreAtIndexes after list
placed_pushed before after sheets list s at placed fresh end put pushed =
    subst (AreAtIndexes after) (sym pushed)
    (record { finds = λ q. put q ∙ ap₂ (λ n o. cond (nat_eq s.id q) (Some n) o) end (placed.finds q) ∙ sym (place_pushed s sheets fresh q) })

-- its id has no index before
pub none_placed : (indexes : Spots) (sheets : List Sheet) (id : ℕ) → AreAtIndexes indexes sheets → list_any (nat_eq id) (ids sheets) ≡ false → index_at id indexes.list.items ≡ None
none_placed indexes sheets id placed fresh = placed.finds id ∙ no_place id sheets fresh

-- ---- a sheet among others

raised_first : (o : Option ℕ) → option_map suc o ≡ option_map (raised 0) o
raised_first None = refl
raised_first (Some n) = ap (λ k. Some k) (more n)
  where
    more : (n : ℕ) → suc n ≡ raised 0 n
    more n = grind arith

raised_later : (at : ℕ) (o : Option ℕ) → option_map suc (option_map (raised at) o) ≡ option_map (raised (suc at)) (option_map suc o)
raised_later at None = refl
raised_later at (Some n) = ap (λ k. Some k) (more at n)
  where
    more : (at n : ℕ) → suc (raised at n) ≡ raised (suc at) (suc n)
    more at n = grind arith

first_stays : (at : ℕ) → raised (suc at) 0 ≡ 0
first_stays at = grind arith

pub place_middle : (front back : List Sheet) (s : Sheet) → list_any (nat_eq s.id) (ids (front ++ back)) ≡ false → (q : ℕ) → index_with_id q (front ++ s ∷ back) ≡ cond (nat_eq s.id q) (Some (length front)) (option_map (raised (length front)) (index_with_id q (front ++ back)))
place_middle [] back s free q = ap (cond (nat_eq s.id q) (Some 0)) (raised_first (index_with_id q back))
place_middle (x ∷ front) back s free q =
    let parts = or_parts (nat_eq s.id x.id) (list_any (nat_eq s.id) (ids (front ++ back))) free in
    ap (λ place. cond (nat_eq x.id q) (Some 0) (option_map suc place)) (place_middle front back s parts.1 q)
    ∙ either_first (nat_eq x.id q) (nat_eq s.id q) (length front) (option_map (raised (length front)) (index_with_id q (front ++ back)))
    (λ t u. clash (nat_eq s.id x.id) (eq-eqb s.id x.id (eqb-true s.id q u ∙ sym (eqb-true x.id q t))) parts.0)
    ∙ ap (cond (nat_eq s.id q) (Some (suc (length front)))) (inner (nat_eq x.id q) (length front) (index_with_id q (front ++ back)))
  where
    inner : (b : Bool) (at : ℕ) (o : Option ℕ) → cond b (Some 0) (option_map suc (option_map (raised at) o)) ≡ option_map (raised (suc at)) (cond b (Some 0) (option_map suc o))
    inner true at o = ap (λ k. Some k) (sym (first_stays at))
    inner false at o = raised_later at o

pub some_apart : (id : ℕ) (ns : List ℕ) → AllByRecursion (λ y. nat_eq id y ≡ false) ns → list_any (nat_eq id) ns ≡ false
some_apart id [] h = refl
some_apart id (n ∷ ns) h = ap₂ ◌||◌ h.0 (some_apart id ns h.1)

pub alone : (front back : List Sheet) (s : Sheet) → IsDistinct nat_eq (ids (front ++ s ∷ back)) → list_any (nat_eq s.id) (ids (front ++ back)) ≡ false
alone front back s d =
    some_apart s.id (ids (front ++ back))
    (IsDistinct-head nat_eq s.id (ids (front ++ back))
    (IsDistinct-IsPermutation nat_eq nat_eq_equiv.symm _ _ (IsPermutation-map (λ (x : Sheet). x.id) (front ++ s ∷ back) (s ∷ (front ++ back)) (IsPermutation-middle front s back)) d))

back_again : (at k : ℕ) → lowered at (raised at k) ≡ k
back_again at k = grind arith

-- ---- some of the sheets get their indexes

-- none so far
pub none_renumbered : (from : ℕ) (at had : Option ℕ) → had ≡ renumbered from from at had
none_renumbered from None had = refl
none_renumbered from (Some at) had = grind arith

there_within : (id : ℕ) (sheets : List Sheet) (k : ℕ) → index_with_id id sheets ≡ Some k → k < length sheets
there_within id [] k e = cc
there_within id (s ∷ sheets) k e = step (nat_eq s.id id) (index_with_id id sheets) (there_within id sheets) e
  where
    step : (b : Bool) (o : Option ℕ) → ((j : ℕ) → o ≡ Some j → j < length sheets) → cond b (Some 0) (option_map suc o) ≡ Some k → k < suc (length sheets)
    step true o rest e = let first : 0 ≡ k = cc in omega (arith, first)
    step false None rest e = cc
    step false (Some j) rest e = let next : suc j ≡ k = cc in let less = rest j refl in omega (arith, less, next)

-- where a sheet was taken away before these
pub lowered_renumbered : (index : ℕ) (sheets : List Sheet) (q : ℕ)
    → renumbered index (length sheets) (index_with_id q sheets) (option_map (raised index) (index_with_id q sheets)) ≡ index_with_id q sheets
lowered_renumbered index sheets q = step (index_with_id q sheets) (there_within q sheets)
  where
    step : (o : Option ℕ) → ((k : ℕ) → o ≡ Some k → k < length sheets) → renumbered index (length sheets) o (option_map (raised index) o) ≡ o
    step None within = refl
    step (Some k) within = let lt : k < length sheets = within k refl in grind (arith, lt)

pub lowered_back : (index : ℕ) (o : Option ℕ) → option_map (lowered index) (option_map (raised index) o) ≡ o
lowered_back index None = refl
lowered_back index (Some k) = ap (λ n. Some n) (back_again index k)

-- where one of them was put to another index
pub moved_back : (from to : ℕ) (o : Option ℕ) → option_map (moved_index from to) (option_map (moved_index to from) o) ≡ o
moved_back from to None = refl
moved_back from to (Some k) = grind arith

-- ---- a sheet goes

longer : (s : Sheet) (xs ys : List Sheet) → length (xs ++ s ∷ ys) ≡ suc (length (xs ++ ys))
longer s [] ys = refl
longer s (x ∷ xs) ys = ap suc (longer s xs ys)

goes_there : (from to : ℕ) → moved_index from to from ≡ to
goes_there from to = ap (λ b. cond b to (raised to (lowered from from))) (eq-eqb from from refl)

others_follow : (from to k : ℕ) → moved_index from to (raised from k) ≡ raised to k
others_follow from to k =
    ap (λ b. cond b to (raised to (lowered from (raised from k)))) (apart (nat_eq (raised from k) from) refl) ∙ ap (raised to) (back_again from k)
  where
    never : (from k : ℕ) → raised from k ≡ from → ⊥
    never from k e = grind (arith, e)

    apart : (b : Bool) → nat_eq (raised from k) from ≡ b → nat_eq (raised from k) from ≡ false
    apart true e = absurd (never from k (eqb-true (raised from k) from e))
    apart false e = e

module _ (sheets : List Sheet) (at : ℕ) (s : Sheet) (differ : IsDistinct nat_eq (ids sheets)) (lt : at < length sheets) (read : s ≡ get_or sheets at s) where
  abbrev front : List Sheet
  front = take at sheets

  abbrev back : List Sheet
  back = drop (suc at) sheets

  parts : sheets ≡ front ++ s ∷ back
  parts = split_at sheets at s lt read

  free : list_any (nat_eq s.id) (ids (front ++ back)) ≡ false
  free = alone front back s (subst (λ xs. IsDistinct nat_eq (ids xs)) parts differ)

  counted : length front ≡ at
  counted = omega (arith, length-take at sheets)

  -- the sheet itself, or one of the others
  pub there : (q : ℕ) → index_with_id q sheets ≡ cond (nat_eq s.id q) (Some at) (option_map (raised at) (index_with_id q (front ++ back)))
  there q = ap (index_with_id q) parts ∙ place_middle front back s free q ∙ ap (λ n. cond (nat_eq s.id q) (Some n) (option_map (raised n) (index_with_id q (front ++ back)))) counted

  left : (q : ℕ) (b : Bool) → nat_eq s.id q ≡ b → (o : Option ℕ) → index_with_id q (front ++ back) ≡ o
      → cond b None (cond b (Some at) (option_map (raised at) o)) ≡ option_map (raised at) o
  left q true e o f =
      let none : o ≡ None = sym f ∙ ap (λ k. index_with_id k (front ++ back)) (sym (eqb-true s.id q e)) ∙ no_place s.id (front ++ back) free in
      ap (option_map (raised at)) (sym none)
  left q false e o f = refl

  -- where the others stand as it went
  pub stand_raised : (before between : Spots) (list : List Sheet) → AreAtIndexes before sheets → list ≡ remove sheets at
      → ((q : ℕ) → index_at q between.list.items ≡ cond (nat_eq s.id q) None (index_at q before.list.items))
      → (q : ℕ) → index_at q between.list.items ≡ option_map (raised at) (index_with_id q list)
  stand_raised before between list placed removed out q =
      out q ∙ ap (cond (nat_eq s.id q) None) (placed.finds q ∙ there q) ∙ left q (nat_eq s.id q) refl (index_with_id q (front ++ back)) refl
      ∙ sym (ap (λ xs. option_map (raised at) (index_with_id q xs)) removed)

  follows : (to : ℕ) (b : Bool) (o : Option ℕ)
      → cond b (Some at) (option_map (raised at) o) ≡ option_map (moved_index to at) (cond b (Some to) (option_map (raised to) o))
  follows to true o = ap (λ n. Some n) (sym (goes_there to at))
  follows to false None = refl
  follows to false (Some k) = ap (λ n. Some n) (sym (others_follow to at k))

  -- where all stand as it was put to another index
  pub stand_moved : (before : Spots) (list : List Sheet) (to : ℕ) → AreAtIndexes before sheets → to < length sheets → list ≡ insert (remove sheets at) to s
      → (q : ℕ) → index_at q before.list.items ≡ option_map (moved_index to at) (index_with_id q list)
  stand_moved before list to placed within put q =
      let first : List Sheet = take to (front ++ back) in
      let rest : List Sheet = drop to (front ++ back) in
      let same : first ++ rest ≡ front ++ back = take-append-drop to (front ++ back) in
      let free_too : list_any (nat_eq s.id) (ids (first ++ rest)) ≡ false = ap (λ xs. list_any (nat_eq s.id) (ids xs)) same ∙ free in
      let all : length sheets ≡ suc (length (front ++ back)) = ap length parts ∙ longer s front back in
      let counted_too : length first ≡ to = omega (arith, length-take to (front ++ back), all) in
      let there_too =
      place_middle first rest s free_too q ∙ ap₂ (λ n xs. cond (nat_eq s.id q) (Some n) (option_map (raised n) (index_with_id q xs))) counted_too same in
      placed.finds q ∙ there q ∙ follows to (nat_eq s.id q) (index_with_id q (front ++ back)) ∙ sym (ap (option_map (moved_index to at)) there_too)
      ∙ sym (ap (λ xs. option_map (moved_index to at) (index_with_id q xs)) put)

  -- where it stands, or one of the others
  abbrev stands : Bool → Option ℕ → Option ℕ
  stands b o = cond b (Some at) (option_map (raised at) o)

  -- this sheet gets its index, too
  pub next_renumbered : (from q : ℕ) (had : Option ℕ) → from ≤ at
      → replaced (nat_eq s.id q) at (renumbered from at (index_with_id q sheets) had) ≡ renumbered from (at + 1) (index_with_id q sheets) had
  next_renumbered from q had le =
      ap (λ o. replaced (nat_eq s.id q) at (renumbered from at o had)) (there q) ∙ step (nat_eq s.id q) (index_with_id q (front ++ back))
      ∙ sym (ap (λ o. renumbered from (at + 1) o had) (there q))
    where
      step : (b : Bool) (o : Option ℕ) → replaced b at (renumbered from at (stands b o) had) ≡ renumbered from (at + 1) (stands b o) had
      step true o = grind (arith, le)
      step false None = refl
      step false (Some k) = grind (arith, le)

-- ---- the greatest id

most_le : (sheets : List Sheet) (n : ℕ) → ((q : ℕ) → is_some (index_with_id q sheets) ≡ true → q ≤ n) → greatest (ids sheets) ≤ n
most_le [] n h = omega arith
most_le (s ∷ sheets) n h =
    let first : s.id ≤ n = h s.id (here (nat_eq s.id s.id) (eq-eqb s.id s.id refl)) in
    let rest : greatest (ids sheets) ≤ n = most_le sheets n (λ q e. h q (later (nat_eq s.id q) (index_with_id q sheets) e)) in
    omega (arith, first, rest)
  where
    here : (b : Bool) → b ≡ true → is_some (cond b (Some 0) (option_map suc (index_with_id s.id sheets))) ≡ true
    here true e = refl
    here false e = cc

    later : (b : Bool) (o : Option ℕ) → is_some o ≡ true → is_some (cond b (Some 0) (option_map suc o)) ≡ true
    later true o e = refl
    later false None e = cc
    later false (Some k) e = refl

there_le : (sheets : List Sheet) (n : ℕ) → is_some (index_with_id n sheets) ≡ true → n ≤ greatest (ids sheets)
there_le [] n e = cc
there_le (s ∷ sheets) n e = step (nat_eq s.id n) refl (index_with_id n sheets) (there_le sheets n) e
  where
    step : (b : Bool) → nat_eq s.id n ≡ b → (o : Option ℕ) → (is_some o ≡ true → n ≤ greatest (ids sheets)) → is_some (cond b (Some 0) (option_map suc o)) ≡ true → n ≤ max s.id (greatest (ids sheets))
    step true here o rest e = let same : s.id ≡ n = eqb-true s.id n here in omega (arith, same)
    step false other None rest e = cc
    step false other (Some k) rest e = let le = rest refl in omega (arith, le)

most_of : (spots : List Spot) (n : ℕ) → ((q : ℕ) → is_some (index_at q spots) ≡ true → q ≤ n) → greatest (map (λ (s : Spot). s.id) spots) ≤ n
most_of [] n h = omega arith
most_of (s ∷ spots) n h =
    let first : s.id ≤ n = h s.id (ap is_some (ap (λ b. cond b (Some s.index) (index_at s.id spots)) (eq-eqb s.id s.id refl))) in
    let rest = most_of spots n (λ q e. h q (later (nat_eq s.id q) (index_at q spots) e)) in
    omega (arith, first, rest)
  where
    later : (b : Bool) (o : Option ℕ) → is_some o ≡ true → is_some (cond b (Some s.index) o) ≡ true
    later true o e = refl
    later false o e = e

there_of : (spots : List Spot) (n : ℕ) → is_some (index_at n spots) ≡ true → n ≤ greatest (map (λ (s : Spot). s.id) spots)
there_of [] n e = cc
there_of (s ∷ spots) n e = step (nat_eq s.id n) refl (there_of spots n) e
  where
    step : (b : Bool) → nat_eq s.id n ≡ b → (is_some (index_at n spots) ≡ true → n ≤ greatest (map (λ (x : Spot). x.id) spots)) → is_some (cond b (Some s.index) (index_at n spots)) ≡ true → n ≤ max s.id (greatest (map (λ (x : Spot). x.id) spots))
    step true here rest e = let same : s.id ≡ n = eqb-true s.id n here in omega (arith, same)
    step false other rest e = let le = rest e in omega (arith, le)

-- the look-up has the greatest id of the sheets
pub greatest_same : (indexes : Spots) (sheets : List Sheet) → AreAtIndexes indexes sheets → greatest (map (λ (s : Spot). s.id) indexes.list.items) ≡ greatest (ids sheets)
greatest_same indexes sheets placed =
    let le = most_of indexes.list.items (greatest (ids sheets)) (λ q e. there_le sheets q (ap is_some (sym (placed.finds q)) ∙ e)) in
    let most = most_le sheets (greatest (map (λ (s : Spot). s.id) indexes.list.items)) (λ q e. there_of indexes.list.items q (ap is_some (placed.finds q) ∙ e)) in
    omega (arith, le, most)
