-- The ids of the sheets in which something dangles, as sheets come, go, move and change.
use Rattle.std.proofs.Common.{◌≡◌, ℕ, zero, suc, ◌<◌, ◌≤◌, inl, inr, List, [], ◌∷◌, ◌++◌, Bool, true, false, cond, ◌&&◌, ◌||◌, not, length, take, drop, get_or, slice_set, nat_eq, refl, sym, ap, ap₂, subst, ◌∙◌, arith}
pub use mathlib.Core.Bool.{or-true as or_true}
use Rattle.std.proofs.lemmas.Bool.{cases_Bool, eq-eqb, eqb-true, or_parts}
use Rattle.std.proofs.lemmas.List.{length-append, length-map, take-append-drop}
use Rattle.std.proofs.lemmas.List.Folds.{list_any-append}
use Rattle.std.proofs.lemmas.Map.Keys.{IsDistinct-cons, IsDistinct-head, IsDistinct-push, IsDistinct-tail}
use Rattle.std.proofs.lemmas.Map.Made.{is_member-filter, length-le_from_is_member}
use Rattle.std.specs.Cmp.{nat_eq_equiv}
use Rattle.std.specs.List.{AllByRecursion, IsDistinct, filter, insert, list_any, remove}
use Rattle.ic_sheets.proofs.IndexLemmas.{set_parts, split_at}
use Rattle.ic_sheets.proofs.PlaceLemmas.{alone}
use Rattle.ic_sheets.proofs.SearchLemmas.{ids}
use Rattle.ic_sheets.specs.Index.{AreDangling, dangles, dangles_at, is_id, is_listed}
use Rattle.ic_sheets.specs.declared.sheet.Sheet.{Sheet}

pub or_exchange : (a b c : Bool) → (a || (b || c)) ≡ (b || (a || c))
or_exchange true true c = refl
or_exchange true false c = refl
or_exchange false true c = refl
or_exchange false false c = refl

pub or_false : (a : Bool) → (a || false) ≡ a
or_false true = refl
or_false false = refl

-- a sheet among others
middle : (q : ℕ) (front back : List Sheet) (s : Sheet) → dangles_at q (front ++ s ∷ back) ≡ (nat_eq q s.id && dangles s || dangles_at q (front ++ back))
middle q [] back s = refl
middle q (x ∷ front) back s = ap (λ b. nat_eq q x.id && dangles x || b) (middle q front back s) ∙ or_exchange (nat_eq q x.id && dangles x) (nat_eq q s.id && dangles s) (dangles_at q (front ++ back))

-- an id that no sheet has
pub absent : (q : ℕ) (sheets : List Sheet) → list_any (nat_eq q) (ids sheets) ≡ false → dangles_at q sheets ≡ false
absent q [] e = refl
absent q (s ∷ sheets) e =
    let parts = or_parts (nat_eq q s.id) (list_any (nat_eq q) (ids sheets)) e in
    ap₂ (λ a b. a && dangles s || b) parts.0 (absent q sheets parts.1)

-- a sheet in which something dangles has its id
present : (q : ℕ) (sheets : List Sheet) → dangles_at q sheets ≡ true → list_any (nat_eq q) (ids sheets) ≡ true
present q sheets e =
    elim (cases_Bool (list_any (nat_eq q) (ids sheets))) [
      | inl there ↦ there
      | inr none ↦ let no = sym e ∙ absent q sheets none in absurd (cc)
    ]

pub none_apart : IsDistinct nat_eq []
unfolding IsDistinct
none_apart = tt

pub dangling_empty : (now : List ℕ) (sheets : List Sheet) → now ≡ [] → sheets ≡ [] → AreDangling now sheets
dangling_empty now sheets none empty = record {
  finds = λ q. ap (is_listed q) none ∙ sym (ap (dangles_at q) empty);
  differ = subst (IsDistinct nat_eq) (sym none) none_apart;
}

-- ---- a sheet comes

pub length_over : {X : Type 0} (xs : List X) (at : ℕ) (x : X) → length (slice_set xs at x) ≡ length xs
length_over [] at x = refl
length_over (y ∷ xs) zero x = refl
length_over (y ∷ xs) (suc at) x = ap suc (length_over xs at x)

pub dangling_pushed : (now : List ℕ) (sheets list : List Sheet) (s : Sheet) → AreDangling now sheets → dangles s ≡ false → list ≡ sheets ++ s ∷ [] → AreDangling now list
dangling_pushed now sheets list s d clean pushed = record {
  finds = λ q. d.finds q ∙ sym (or_false (dangles_at q sheets))
      ∙ ap (λ b. dangles_at q sheets || b) (sym (step (nat_eq q s.id)))
      ∙ sym (ap (dangles_at q) pushed ∙ list_any-append (λ (x : Sheet). nat_eq q x.id && dangles x) sheets (s ∷ []));
  differ = d.differ;
}
  where
    step : (b : Bool) → (b && dangles s || false) ≡ false
    step true = ap (λ c. c || false) clean
    step false = refl

-- ---- one sheet among others

module _ (front back : List Sheet) (s : Sheet) where
  pub id_here : is_id s.id (front ++ s ∷ back) ≡ true
  id_here = go front
    where
      go : (xs : List Sheet) → is_id s.id (xs ++ s ∷ back) ≡ true
      go [] = ap (λ a. a || list_any (nat_eq s.id) (ids back)) (eq-eqb s.id s.id refl)
      go (x ∷ xs) = ap (λ b. nat_eq s.id x.id || b) (go xs) ∙ or_true (nat_eq s.id x.id)

  module _ (differ : IsDistinct nat_eq (ids (front ++ s ∷ back))) where
    none_else : dangles_at s.id (front ++ back) ≡ false
    none_else = absent s.id (front ++ back) (alone front back s differ)

    pub dangles_here : dangles_at s.id (front ++ s ∷ back) ≡ dangles s
    dangles_here = middle s.id front back s ∙ ap₂ (λ a b. a && dangles s || b) (eq-eqb s.id s.id refl) none_else ∙ or_false (dangles s)

-- ---- one sheet goes or changes

module _ (now : List ℕ) (front back : List Sheet) (s : Sheet) (d : AreDangling now (front ++ s ∷ back)) (differ : IsDistinct nat_eq (ids (front ++ s ∷ back))) where
  -- its id is listed where something dangles in it
  pub listed_here : is_listed s.id now ≡ dangles s
  listed_here = d.finds s.id ∙ dangles_here front back s differ

  others : (q : ℕ) → nat_eq q s.id ≡ false → is_listed q now ≡ dangles_at q (front ++ back)
  others q e = d.finds q ∙ middle q front back s ∙ ap (λ a. a && dangles s || dangles_at q (front ++ back)) e

  -- there is room for it
  pub room_here : dangles s ≡ false → length now < length (front ++ s ∷ back)
  room_here clean =
      let more : List ℕ = now ++ s.id ∷ [] in
      let apart : IsDistinct nat_eq more = IsDistinct-push nat_eq_equiv now s.id d.differ (listed_here ∙ clean) in
      let all : length more ≤ length (ids (front ++ s ∷ back)) = length-le_from_is_member nat_eq_equiv more (ids (front ++ s ∷ back)) apart within in
      omega (arith, all, length-append now (s.id ∷ []), length-map (front ++ s ∷ back) (λ (x : Sheet). x.id))
    where
      within : (q : ℕ) → list_any (nat_eq q) (now ++ s.id ∷ []) ≡ true → list_any (nat_eq q) (ids (front ++ s ∷ back)) ≡ true
      within q e =
          elim (cases_Bool (nat_eq q s.id)) [
            | inl same ↦ subst (λ k. list_any (nat_eq k) (ids (front ++ s ∷ back)) ≡ true) (sym (eqb-true q s.id same)) (id_here front back s)
            | inr other ↦ present q (front ++ s ∷ back)
                (sym (d.finds q) ∙ sym (or_false (is_listed q now)) ∙ ap (λ b. is_listed q now || (b || false)) (sym other) ∙ sym (list_any-append (nat_eq q) now (s.id ∷ [])) ∙ e)
          ]

  module _ (after : List ℕ) (b : Bool) (settled : (q : ℕ) → is_listed q after ≡ cond (nat_eq q s.id) b (is_listed q now)) (apart : IsDistinct nat_eq after) where
    -- the sheet is gone
    gone : b ≡ false → AreDangling after (front ++ back)
    gone none = record { finds = λ q. settled q ∙ step q (nat_eq q s.id) refl; differ = apart }
      where
        step : (q : ℕ) (c : Bool) → nat_eq q s.id ≡ c → cond c b (is_listed q now) ≡ dangles_at q (front ++ back)
        step q true e = none ∙ sym (none_else front back s differ) ∙ ap (λ k. dangles_at k (front ++ back)) (sym (eqb-true q s.id e))
        step q false e = others q e

    -- the sheet has changed
    over : (t : Sheet) → t.id ≡ s.id → b ≡ dangles t → AreDangling after (front ++ t ∷ back)
    over t same is = record { finds = λ q. settled q ∙ step q (nat_eq q s.id) refl ∙ sym (middle q front back t); differ = apart }
      where
        step : (q : ℕ) (c : Bool) → nat_eq q s.id ≡ c → cond c b (is_listed q now) ≡ (nat_eq q t.id && dangles t || dangles_at q (front ++ back))
        step q true e =
            let here : nat_eq q t.id ≡ true = ap (nat_eq q) same ∙ e in
            let none : dangles_at q (front ++ back) ≡ false = ap (λ k. dangles_at k (front ++ back)) (eqb-true q s.id e) ∙ none_else front back s differ in
            is ∙ sym (ap₂ (λ a c. a && dangles t || c) here none ∙ or_false (dangles t))
        step q false e =
            let here : nat_eq q t.id ≡ false = ap (nat_eq q) same ∙ e in
            others q e ∙ sym (ap (λ a. a && dangles t || dangles_at q (front ++ back)) here)

-- the same by its place
module _ (now : List ℕ) (sheets : List Sheet) (at : ℕ) (s : Sheet) (d : AreDangling now sheets) (differ : IsDistinct nat_eq (ids sheets)) (lt : at < length sheets) (read : s ≡ get_or sheets at s) where
  abbrev front : List Sheet
  front = take at sheets

  abbrev back : List Sheet
  back = drop (suc at) sheets

  parts : sheets ≡ front ++ s ∷ back
  parts = split_at sheets at s lt read

  there : AreDangling now (front ++ s ∷ back)
  there = subst (AreDangling now) parts d

  apart_there : IsDistinct nat_eq (ids (front ++ s ∷ back))
  apart_there = subst (λ xs. IsDistinct nat_eq (ids xs)) parts differ

  pub listed_at : is_listed s.id now ≡ dangles s
  listed_at = listed_here now front back s there apart_there

  pub room_at : (most : ℕ) → length sheets ≤ most → dangles s ≡ false → length now < most
  room_at most le clean = let lt : length now < length (front ++ s ∷ back) = room_here now front back s there apart_there clean in omega (arith, lt, le, ap length parts)

  removed_parts : remove sheets at ≡ front ++ back
  removed_parts = go sheets at lt
    where
      go : (xs : List Sheet) (i : ℕ) → i < length xs → remove xs i ≡ take i xs ++ drop (suc i) xs
      go [] i le = absurd (omega arith)
      go (x ∷ xs) zero le = refl
      go (x ∷ xs) (suc i) le = ap (λ (ys : List Sheet). x ∷ ys) (go xs i (omega arith))

  pub none_other : list_any (nat_eq s.id) (ids (remove sheets at)) ≡ false
  none_other = ap (λ xs. list_any (nat_eq s.id) (ids xs)) removed_parts ∙ alone front back s apart_there

  module _ (after : List ℕ) (b : Bool) (settled : (q : ℕ) → is_listed q after ≡ cond (nat_eq q s.id) b (is_listed q now)) (apart : IsDistinct nat_eq after) where
    pub dangling_removed : (list : List Sheet) → b ≡ false → list ≡ remove sheets at → AreDangling after list
    dangling_removed list none removed = subst (AreDangling after) (sym (removed ∙ removed_parts)) (gone now front back s there apart_there after b settled apart none)

    pub dangling_over : (t : Sheet) → t.id ≡ s.id → b ≡ dangles t → AreDangling after (slice_set sheets at t)
    dangling_over t same is = subst (AreDangling after) (sym (set_parts sheets at t lt)) (over now front back s there apart_there after b settled apart t same is)

  -- a sheet that gets another name
  pub dangling_renamed : (t : Sheet) → t.id ≡ s.id → dangles t ≡ dangles s → AreDangling now (slice_set sheets at t)
  dangling_renamed t same is = subst (AreDangling now) (sym (set_parts sheets at t lt)) (record {
    finds = λ q. there.finds q ∙ middle q front back s ∙ sym (middle q front back t ∙ ap₂ (λ k b. nat_eq q k && b || dangles_at q (front ++ back)) same is);
    differ = there.differ;
  })

  -- a sheet that gets another place
  pub dangling_moved : (list : List Sheet) (to : ℕ) → list ≡ insert (remove sheets at) to s → AreDangling now list
  dangling_moved list to put =
      let first : List Sheet = take to (front ++ back) in
      let rest : List Sheet = drop to (front ++ back) in
      let same : first ++ rest ≡ front ++ back = take-append-drop to (front ++ back) in
      let e : list ≡ first ++ s ∷ rest = put ∙ ap (λ xs. insert xs to s) removed_parts in
      subst (AreDangling now) (sym e) (record {
        finds = λ q. there.finds q ∙ middle q front back s ∙ sym (middle q first rest s ∙ ap (λ xs. nat_eq q s.id && dangles s || dangles_at q xs) same);
        differ = there.differ;
      })

-- ---- those of the ids that are left

all_filter : (P : ℕ → Type 0) (p : ℕ → Bool) (xs : List ℕ) → AllByRecursion P xs → AllByRecursion P (filter p xs)
all_filter P p [] h = tt
all_filter P p (x ∷ xs) h = one (p x) h.0 (all_filter P p xs h.1)
  where
    one : (b : Bool) → P x → AllByRecursion P (filter p xs) → AllByRecursion P (cond b (x ∷ filter p xs) (filter p xs))
    one true h rest = (h, rest)
    one false h rest = rest

distinct_filter : (p : ℕ → Bool) (xs : List ℕ) → IsDistinct nat_eq xs → IsDistinct nat_eq (filter p xs)
distinct_filter p [] d = d
distinct_filter p (x ∷ xs) d = step (p x) (all_filter (λ y. nat_eq x y ≡ false) p xs (IsDistinct-head nat_eq x xs d)) (distinct_filter p xs (IsDistinct-tail nat_eq x xs d))
  where
    step : (b : Bool) → AllByRecursion (λ y. nat_eq x y ≡ false) (filter p xs) → IsDistinct nat_eq (filter p xs) → IsDistinct nat_eq (cond b (x ∷ filter p xs) (filter p xs))
    step true other rest = IsDistinct-cons nat_eq x (filter p xs) other rest
    step false other rest = rest

listed_filter : (p : ℕ → Bool) (q : ℕ) (xs : List ℕ) → is_listed q (filter p xs) ≡ (is_listed q xs && p q)
listed_filter p q xs = is_member-filter nat_eq_equiv p q (λ x e. ap p (eqb-true q x e)) xs

-- an id is taken out
pub taken_out : (now after : List ℕ) (id : ℕ) → IsDistinct nat_eq now → after ≡ filter (λ q. not (nat_eq q id)) now → ((q : ℕ) → is_listed q after ≡ cond (nat_eq q id) false (is_listed q now)) × IsDistinct nat_eq after
taken_out now after id d e = (
  λ q. ap (is_listed q) e ∙ listed_filter (λ k. not (nat_eq k id)) q now ∙ step (is_listed q now) (nat_eq q id),
  subst (IsDistinct nat_eq) (sym e) (distinct_filter (λ k. not (nat_eq k id)) now d),
)
  where
    step : (a b : Bool) → (a && not b) ≡ cond b false a
    step true true = refl
    step true false = refl
    step false true = refl
    step false false = refl

-- an id is put in
pub put_in : (now after : List ℕ) (id : ℕ) → IsDistinct nat_eq now → is_listed id now ≡ false → after ≡ now ++ id ∷ [] → ((q : ℕ) → is_listed q after ≡ cond (nat_eq q id) true (is_listed q now)) × IsDistinct nat_eq after
put_in now after id d none e = (
  λ q. ap (is_listed q) e ∙ list_any-append (nat_eq q) now (id ∷ []) ∙ step (is_listed q now) (nat_eq q id),
  subst (IsDistinct nat_eq) (sym e) (IsDistinct-push nat_eq_equiv now id d none),
)
  where
    step : (a b : Bool) → (a || (b || false)) ≡ cond b true a
    step true true = refl
    step true false = refl
    step false true = refl
    step false false = refl

-- nothing is put in or taken out
pub left_alone : (now : List ℕ) (id : ℕ) (b : Bool) → is_listed id now ≡ b → (q : ℕ) → is_listed q now ≡ cond (nat_eq q id) b (is_listed q now)
left_alone now id b is q = step (nat_eq q id) refl
  where
    step : (c : Bool) → nat_eq q id ≡ c → is_listed q now ≡ cond c b (is_listed q now)
    step true e = ap (λ k. is_listed k now) (eqb-true q id e) ∙ is
    step false e = refl
