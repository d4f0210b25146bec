-- Lists that are put together, filtered, cut and looked through.
use Rattle.std.proofs.Common.{◌≡◌, ℕ, zero, suc, ◌+◌, ◌≤◌, List, [], ◌∷◌, ◌++◌, filter, length, map, take, reverse, Bool, true, false, cond, not, ◌||◌, None, Some, refl, sym, ap, ap₂, ◌∙◌, arith, inl, inr, length-append}
use Rattle.std.proofs.lemmas.Bool.{and_parts, cases_Bool, or_parts}
use Rattle.std.proofs.lemmas.Bool.Decides.{nat_tests}
use Rattle.std.proofs.lemmas.List.{reverse-append}
use Rattle.std.proofs.lemmas.List.Filters.{length-filter_both}
use Rattle.std.proofs.lemmas.Map.Keys.{IsDistinct-cons, sorted_head, sorted_tail}
use Rattle.std.proofs.lemmas.Map.Made.{is_member-filter, length-le_from_is_member}
use Rattle.std.specs.Cmp.{IsEquivalence}
use Rattle.std.specs.List.{AllByRecursion, IsDistinct, insert, list_any, position_or_len, range_with_len, remove, zip}
use Rattle.std.specs.List.Sorted.{IsStrictlySortedBy}
use Rattle.std.specs.Prelude.{nat_lt, position}
use Rattle.std.specs.Set.{is_member}
use Rattle.std.specs.declared.cmp.Ordering.{Ordering}
use Rattle.std.specs.declared.cmp.Ordering.TheVariants.{Less}
use Rattle.ic_laws.specs.CoreStep.{updated_at}
use Rattle.ic_machine.proofs.valid.ValidLemmas.{all_of}
use Rattle.ic_machine.proofs.bound.CopyKeys.{all_appended}
pub use Rattle.ic_changes.proofs.Uncopied.{none_filtered}

-- What holds of all of a list. ----

module _ {A : Type 0} (P : A → Type 0) where
  pub front_holds : (xs ys : List A) → AllByRecursion P (xs ++ ys) → AllByRecursion P xs
  front_holds [] ys h = tt
  front_holds (x ∷ xs) ys h = (h.0, front_holds xs ys h.1)

  pub back_holds : (xs ys : List A) → AllByRecursion P (xs ++ ys) → AllByRecursion P ys
  back_holds [] ys h = h
  back_holds (x ∷ xs) ys h = back_holds xs ys h.1

  pub cut_holds : (n : ℕ) (xs : List A) → AllByRecursion P xs → AllByRecursion P (take n xs)
  cut_holds zero xs h = tt
  cut_holds (suc n) [] h = tt
  cut_holds (suc n) (x ∷ xs) h = (h.0, cut_holds n xs h.1)

  -- what holds of those that pass a test holds of what is filtered by it
  pub filtered_holds : (p : A → Bool) (xs : List A) → AllByRecursion (λ x. p x ≡ true → P x) xs → AllByRecursion P (filter p xs)
  filtered_holds p [] h = tt
  filtered_holds p (x ∷ xs) h = by_test (p x) refl (filtered_holds p xs h.1)
    where
      by_test : (t : Bool) → p x ≡ t → AllByRecursion P (filter p xs) → AllByRecursion P (cond t (x ∷ filter p xs) (filter p xs))
      by_test true e rest = (h.0 e, rest)
      by_test false e rest = rest

pub unmapped_holds : {A B : Type 0} (f : A → B) (P : B → Type 0) (xs : List A) → AllByRecursion P (map f xs) → AllByRecursion (λ x. P (f x)) xs
unmapped_holds f P [] h = tt
unmapped_holds f P (x ∷ xs) h = (h.0, unmapped_holds f P xs h.1)

-- two facts of each give a third
pub both_of_each : {A : Type 0} (P Q R : A → Type 0) → ((x : A) → P x → Q x → R x) → (xs : List A) → AllByRecursion P xs → AllByRecursion Q xs → AllByRecursion R xs
both_of_each P Q R give [] h g = tt
both_of_each P Q R give (x ∷ xs) h g = (give x h.0 g.0, both_of_each P Q R give xs h.1 g.1)

-- what holds of each of two lists, the other way round
pub flipped_holds : {A B : Type 0} (R : A → B → Type 0) (xs : List A) (ys : List B) → AllByRecursion (λ x. AllByRecursion (R x) ys) xs → AllByRecursion (λ y. AllByRecursion (λ x. R x y) xs) ys
flipped_holds R xs [] h = tt
flipped_holds R xs (y ∷ ys) h =
    (all_of (λ x. AllByRecursion (R x) (y ∷ ys)) (λ x. R x y) (λ x g. g.0) xs h, flipped_holds R xs ys (all_of (λ x. AllByRecursion (R x) (y ∷ ys)) (λ x. AllByRecursion (R x) ys) (λ x g. g.1) xs h))

-- none of a list passes a test
pub none_any : {A : Type 0} (p : A → Bool) (xs : List A) → AllByRecursion (λ x. p x ≡ false) xs → list_any p xs ≡ false
none_any p [] h = refl
none_any p (x ∷ xs) h = rw (h.0, none_any p xs h.1) refl

-- Keys that differ. ----

module _ {K : Type 0} {same : K → K → Bool} (laws : IsEquivalence same) where
  pub member_alike : (x y : K) → same x y ≡ true → (ks : List K) → is_member same ks x ≡ is_member same ks y
  member_alike x y e [] = refl
  member_alike x y e (k ∷ ks) = rw (laws.congr x y k e, member_alike x y e ks) refl

  pub filtered_differ : (p : K → Bool) (xs : List K) → IsDistinct same xs → IsDistinct same (filter p xs)
  unfolding IsDistinct
  filtered_differ p [] d = tt
  filtered_differ p (x ∷ xs) d = by_test (p x) (filtered_differ p xs d.1)
    where
      by_test : (t : Bool) → IsDistinct same (filter p xs) → IsDistinct same (cond t (x ∷ filter p xs) (filter p xs))
      by_test true rest = IsDistinct-cons same x (filter p xs) (filtered_holds (λ y. same x y ≡ false) p xs (all_of (λ y. same x y ≡ false) (λ y. p y ≡ true → same x y ≡ false) (λ y h e. h) xs d.0)) rest
      by_test false rest = rest

  pub cut_differ : (n : ℕ) (xs : List K) → IsDistinct same xs → IsDistinct same (take n xs)
  unfolding IsDistinct
  cut_differ zero xs d = tt
  cut_differ (suc n) [] d = tt
  cut_differ (suc n) (x ∷ xs) d = IsDistinct-cons same x (take n xs) (cut_holds (λ y. same x y ≡ false) n xs d.0) (cut_differ n xs d.1)

  -- of keys that differ, those that others have are no more than these others
  pub enough_left : (xs others : List K) → IsDistinct same xs → length xs ≤ length others + length (filter (λ x. not (is_member same others x)) xs)
  enough_left xs others d =
      let among : K → Bool = λ x. is_member same others x in
      let most : length (filter among xs) ≤ length others =
      length-le_from_is_member laws (filter among xs) others (filtered_differ among xs d)
      (λ q e. (and_parts (is_member same xs q) (among q) (sym (is_member-filter laws among q (λ x alike. member_alike q x alike others) xs) ∙ e)).1) in
      let both : length (filter among xs) + length (filter (λ x. not (among x)) xs) ≡ length xs = length-filter_both among (λ x. not (among x)) (λ x. refl) xs in
      omega (arith, most, both)

  -- both of two lists differ, and no key of one is in the other
  pub joined_differ : (xs ys : List K) → IsDistinct same xs → IsDistinct same ys → AllByRecursion (λ y. is_member same xs y ≡ false) ys → IsDistinct same (xs ++ ys)
  unfolding IsDistinct
  joined_differ [] ys d e h = e
  joined_differ (x ∷ xs) ys d e h =
      let P : K → Type 0 = λ y. is_member same (x ∷ xs) y ≡ false in
      IsDistinct-cons same x (xs ++ ys)
      (all_appended (λ y. same x y ≡ false) xs ys d.0 (all_of P (λ y. same x y ≡ false) (λ y n. laws.symm x y ∙ (or_parts (same y x) (is_member same xs y) n).0) ys h))
      (joined_differ xs ys d.1 e (all_of P (λ y. is_member same xs y ≡ false) (λ y n. (or_parts (same y x) (is_member same xs y) n).1) ys h))

  pub front_differs : (xs ys : List K) → IsDistinct same (xs ++ ys) → IsDistinct same xs
  unfolding IsDistinct
  front_differs [] ys d = tt
  front_differs (x ∷ xs) ys d = IsDistinct-cons same x xs (front_holds (λ y. same x y ≡ false) xs ys d.0) (front_differs xs ys d.1)

  -- a key in the middle is in neither part
  pub middle_differs : (xs : List K) (x : K) (ys : List K) → IsDistinct same (xs ++ x ∷ ys) → (is_member same xs x ≡ false) × (is_member same ys x ≡ false)
  unfolding IsDistinct
  middle_differs [] x ys d = (refl, none_any (same x) ys d.0)
  middle_differs (y ∷ xs) x ys d =
      let rest = middle_differs xs x ys d.1 in
      let apart : same x y ≡ false = laws.symm x y ∙ (back_holds (λ z. same y z ≡ false) xs (x ∷ ys) d.0).0 in
      (rw (apart, rest.0) refl, rest.1)

-- Places in a list. ----

pub insert_seam : {A : Type 0} (xs ys : List A) (x : A) → insert (xs ++ ys) (length xs) x ≡ xs ++ x ∷ ys
insert_seam [] [] x = refl
insert_seam [] (y ∷ ys) x = refl
insert_seam (z ∷ xs) ys x = ap (λ rest. z ∷ rest) (insert_seam xs ys x)

pub remove_seam : {A : Type 0} (xs : List A) (x : A) (ys : List A) → remove (xs ++ x ∷ ys) (length xs) ≡ xs ++ ys
remove_seam [] x ys = refl
remove_seam (z ∷ xs) x ys = ap (λ rest. z ∷ rest) (remove_seam xs x ys)

pub updated_seam : {A : Type 0} (f : A → A) (xs : List A) (x : A) (ys : List A) → updated_at f (length xs) (xs ++ x ∷ ys) ≡ xs ++ f x ∷ ys
updated_seam f [] x ys = refl
updated_seam f (z ∷ xs) x ys = ap (λ rest. z ∷ rest) (updated_seam f xs x ys)

-- where the first of a list stands that passes a test
pub position_seam : {A : Type 0} (p : A → Bool) (xs : List A) (x : A) (ys : List A) → AllByRecursion (λ y. p y ≡ false) xs → p x ≡ true → position p (xs ++ x ∷ ys) ≡ Some (length xs)
position_seam {A} p xs x ys none here =
    let place : position_or_len p (xs ++ x ∷ ys) ≡ length xs = first_at xs none in
    let long : length (xs ++ x ∷ ys) ≡ length xs + suc (length ys) = length-append xs (x ∷ ys) in
    let within : nat_lt (length xs) (length (xs ++ x ∷ ys)) ≡ true = grind (arith, nat_tests) in
    ap (λ (n : ℕ). cond (nat_lt n (length (xs ++ x ∷ ys))) (Some n) None) place ∙ ap (λ (b : Bool). cond b (Some (length xs)) None) within
  where
    first_at : (zs : List A) → AllByRecursion (λ y. p y ≡ false) zs → position_or_len p (zs ++ x ∷ ys) ≡ length zs
    first_at [] h = ap (λ (b : Bool). cond (not b) (1 + position_or_len p ys) 0) here
    first_at (z ∷ zs) h = ap₂ (λ (b : Bool) (n : ℕ). cond (not b) (1 + n) 0) h.0 (first_at zs h.1) ∙ one_more (length zs)
      where
        one_more : (n : ℕ) → 1 + n ≡ suc n
        one_more n = omega arith

pub any_seam : {A : Type 0} (p : A → Bool) (xs : List A) (x : A) (ys : List A) → p x ≡ true → list_any p (xs ++ x ∷ ys) ≡ true
any_seam p [] x ys h = ap (λ (b : Bool). b || list_any p ys) h
any_seam p (z ∷ xs) x ys h = ap (λ (b : Bool). p z || b) (any_seam p xs x ys h) ∙ or_true (p z)
  where
    or_true : (b : Bool) → (b || true) ≡ true
    or_true true = refl
    or_true false = refl

pub range_from_end : (a n : ℕ) → reverse (range_with_len a (suc n)) ≡ reverse (range_with_len (a + 1) n) ++ a ∷ []
range_from_end a n = reverse-append (a ∷ []) (range_with_len (a + 1) n)

pub ids_of_zip : {A B : Type 0} (xs : List A) (ys : List B) → length ys ≡ length xs → (map (λ (p : A × B). p.0) (zip xs ys) ≡ xs) × (map (λ (p : A × B). p.1) (zip xs ys) ≡ ys)
ids_of_zip [] [] e = (refl, refl)
ids_of_zip [] (y ∷ ys) e = absurd (omega (arith, e))
ids_of_zip (x ∷ xs) [] e = absurd (omega (arith, e))
ids_of_zip (x ∷ xs) (y ∷ ys) e = let rest = ids_of_zip xs ys (omega (arith, e)) in (ap (λ zs. x ∷ zs) rest.0, ap (λ zs. y ∷ zs) rest.1)

-- The one of a list that passes a test, where there is one and no other does.
pub record IsOnly {A : Type 0} (p : A → Bool) (xs : List A) : Type 0 where
  pub it : A
  pub alone : filter p xs ≡ it ∷ []
  pub passes : p it ≡ true

pub only_one : {A K : Type 0} (p : A → Bool) (key : A → K) (same : K → K → Bool) → ((x y : A) → p x ≡ true → same (key x) (key y) ≡ false → p y ≡ false) → (xs : List A) → IsDistinct same (map key xs) → list_any p xs ≡ true → IsOnly p xs
unfolding IsDistinct
only_one p key same apart [] d e = absurd (cc)
only_one p key same apart (x ∷ xs) d e = elim (cases_Bool (p x)) [
  | inl t ↦
      let others : AllByRecursion (λ y. p y ≡ false) xs = all_of (λ y. same (key x) (key y) ≡ false) (λ y. p y ≡ false) (λ y h. apart x y t h) xs (unmapped_holds key (λ k. same (key x) k ≡ false) xs d.0) in
      record { it = x; alone = rw t (ap (λ rest. x ∷ rest) (none_filtered p xs others)); passes = t }
  | inr f ↦
      let rest = only_one p key same apart xs d.1 (rw f at e) in
      record { it = rest.it; alone = rw f rest.alone; passes = rest.passes }
]

-- In a list in order all before an item are less. ----

pub sorted_before : {A K : Type 0} (key : A → K) (cmp : K → K → Ordering) (xs : List A) (x : A) (ys : List A) → IsStrictlySortedBy cmp (map key (xs ++ x ∷ ys)) → AllByRecursion (λ y. cmp (key y) (key x) ≡ Less) xs
sorted_before key cmp [] x ys h = tt
sorted_before key cmp (z ∷ xs) x ys h =
    let later = sorted_head cmp (key z) (map key (xs ++ x ∷ ys)) h in
    ((back_holds (λ y. cmp (key z) (key y) ≡ Less) xs (x ∷ ys) (unmapped_holds key (λ k. cmp (key z) k ≡ Less) (xs ++ x ∷ ys) later)).0, sorted_before key cmp xs x ys (sorted_tail cmp (key z) (map key (xs ++ x ∷ ys)) h))
