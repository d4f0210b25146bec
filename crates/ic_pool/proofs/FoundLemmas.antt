-- What is found by keys after a look-up changed.
use Rattle.std.proofs.Common.{◌≡◌, ℕ, zero, suc, List, [], ◌∷◌, ◌++◌, Bool, true, false, cond, Option, Some, None, option_map, refl, sym, ap, ap₂, ◌∙◌, bytes_eq, length, inl, inr}
use Rattle.std.specs.Prelude.{nat_eq}
use Rattle.std.specs.BTreeMap.{BTreeMap, Updates, get}
use Rattle.std.specs.Cmp.{unsigned_tied}
use Rattle.std.specs.List.{slice_get}
use Rattle.std.specs.Ordering.{nat_cmp}
use Rattle.std.proofs.lemmas.Bool.{eq-eqb, eqb-true}
use Rattle.std.proofs.lemmas.Slice.Eq.{bytes_eq-Decides}
use Rattle.ic_laws.specs.declared.tree.Formula.{Formula}
use Rattle.ic_pool.specs.Code.{code}
use Rattle.ic_pool.specs.Hash.{hash_of, key_cmp}
use Rattle.ic_pool.specs.LookUp.{AreHashed, IsEmpty, IsHashed, IsKept, IsLeftOut, IsPut, IsSame, apart_from, checked, first_of, found, has_key, is_place}
use Rattle.ic_pool.specs.declared.look_up.LookUp.{LookUp}
use Rattle.ic_pool.proofs.HashLemmas.{is_eq-key_cmp}
use Rattle.ic_pool.proofs.KeyLemmas.{clash}
use Rattle.ic_laws.proofs.General.{bytes_eq-flip}

abbrev by_hash : LookUp → ℕ → Option ℕ
by_hash look hash = get nat_cmp look.by_hash hash

abbrev by_key : LookUp → List ℕ → Option ℕ
by_key look key = get key_cmp look.by_key key

-- ---- one map changes

pub kept_at : (before after : BTreeMap (List ℕ) ℕ) (key : List ℕ) (place : Option ℕ) → Updates key_cmp before after key place → (other : List ℕ) → get key_cmp after other ≡ cond (bytes_eq key other) place (get key_cmp before other)
kept_at before after key place u other = u.0 other ∙ ap (λ b. cond b place (get key_cmp before other)) (is_eq-key_cmp key other)

pub hashed_at : (before after : BTreeMap ℕ ℕ) (hash : ℕ) (place : Option ℕ) → Updates nat_cmp before after hash place → (other : ℕ) → get nat_cmp after other ≡ cond (nat_eq hash other) place (get nat_cmp before other)
hashed_at before after hash place u other = u.0 other ∙ ap (λ b. cond b place (get nat_cmp before other)) (unsigned_tied hash other)

pub out_at : (before after : BTreeMap ℕ ℕ) (hash at : ℕ) → is_place at (get nat_cmp before hash) ≡ true → Updates nat_cmp before after hash None
    → (other : ℕ) → get nat_cmp after other ≡ cond (nat_eq hash other) (apart_from at (get nat_cmp before other)) (get nat_cmp before other)
out_at before after hash at here u other = hashed_at before after hash None u other ∙ by_test (nat_eq hash other) refl
  where
    by_test : (b : Bool) → nat_eq hash other ≡ b → cond b None (get nat_cmp before other) ≡ cond b (apart_from at (get nat_cmp before other)) (get nat_cmp before other)
    by_test true same =
        sym (ap (λ c. cond c None (get nat_cmp before other)) (ap (λ h. is_place at (get nat_cmp before h)) (sym (eqb-true hash other same)) ∙ here))
    by_test false apart = refl

pub not_out_at : (before : BTreeMap ℕ ℕ) (hash at : ℕ) → is_place at (get nat_cmp before hash) ≡ false
    → (other : ℕ) → get nat_cmp before other ≡ cond (nat_eq hash other) (apart_from at (get nat_cmp before other)) (get nat_cmp before other)
not_out_at before hash at elsewhere other = by_test (nat_eq hash other) refl
  where
    by_test : (b : Bool) → nat_eq hash other ≡ b → get nat_cmp before other ≡ cond b (apart_from at (get nat_cmp before other)) (get nat_cmp before other)
    by_test true same =
        sym (ap (λ c. cond c None (get nat_cmp before other)) (ap (λ h. is_place at (get nat_cmp before h)) (sym (eqb-true hash other same)) ∙ elsewhere))
    by_test false apart = refl

-- ---- the same places

pub same_found : (before after : LookUp) (xs : List Formula) → IsSame before after → (q : List ℕ) → found after xs q ≡ found before xs q
same_found before after xs same q = ap₂ (λ a b. first_of a (checked xs q b)) (same.by_key q) (same.by_hash (hash_of q))

-- ---- none

pub same_both : (b : Bool) (o : Option ℕ) → o ≡ cond b o o
same_both true o = refl
same_both false o = refl

none_checked : (xs : List Formula) (q : List ℕ) (o : Option ℕ) → o ≡ None → checked xs q o ≡ None
none_checked xs q o e = ap (checked xs q) e

pub empty_found : (look : LookUp) (xs : List Formula) → IsEmpty look → (q : List ℕ) → found look xs q ≡ None
empty_found look xs none q = ap₂ (λ a b. first_of a (checked xs q b)) (none.by_key q) (none.by_hash (hash_of q))

pub empty_hashed : (look : LookUp) (xs : List Formula) → IsEmpty look → AreHashed look xs
empty_hashed look xs none hash at e = let no : None ≡ Some at = sym (none.by_hash hash) ∙ e in cc

-- ---- a place that is found gets its key

-- ---- a place is put in

-- each item of a list stands in another, too
abbrev pub StandsIn : List Formula → List Formula → Type 0
StandsIn xs ys = (k : ℕ) (z : Formula) → slice_get xs k ≡ Some z → slice_get ys k ≡ Some z

hash_there : (o : Option Formula) (hash : ℕ) → option_map (λ x. hash_of (code x)) o ≡ Some hash → (x : Formula) × (o ≡ Some x) × (hash_of (code x) ≡ hash)
hash_there None hash e = cc
hash_there (Some x) hash e = (x, refl, cc)

module _ (before after : LookUp) (xs ys : List Formula) (x : Formula) (key : List ℕ) (at : ℕ) (hashed : AreHashed before xs) (is : slice_get ys at ≡ Some x) (is_key : key ≡ code x) (stands : StandsIn xs ys) where
  still_hashed : AreHashed before ys
  still_hashed hash k e =
      let y = hash_there (slice_get xs k) hash (hashed hash k e) in
      ap (option_map (λ z. hash_of (code z))) (stands k y.0 y.1) ∙ ap (λ n. Some n) y.2

  -- what is there by a hash is checked alike
  checked_there : (q : List ℕ) (o : Option ℕ) → by_hash before (hash_of q) ≡ o → checked ys q o ≡ checked xs q o
  checked_there q None e = refl
  checked_there q (Some k) e =
      let y = hash_there (slice_get xs k) (hash_of q) (hashed (hash_of q) k e) in
      ap (λ f. cond (has_key q f) (Some k) None) (stands k y.0 y.1 ∙ sym y.1)

  here : (q : List ℕ) (b : Bool) → bytes_eq key q ≡ b → checked ys q (Some at) ≡ cond b (Some at) None
  here q b e = ap (λ f. cond (has_key q f) (Some at) None) is ∙ ap (λ k. cond (bytes_eq q k) (Some at) None) (sym is_key) ∙ ap (λ c. cond c (Some at) None) (bytes_eq-flip q key ∙ e)

  -- where it stands by its hash
  by_its_hash : IsHashed key at before after → (q : List ℕ) → found after ys q ≡ cond (bytes_eq key q) (Some at) (found before xs q)
  by_its_hash put q =
      ap₂ (λ a b. first_of a (checked ys q b)) (put.by_key q) (put.by_hash (hash_of q)) ∙ by_test (bytes_eq key q) refl
    where
      other_hash : bytes_eq key q ≡ false → (c : Bool) → nat_eq (hash_of key) (hash_of q) ≡ c → checked ys q (cond c (Some at) (by_hash before (hash_of q))) ≡ checked xs q (by_hash before (hash_of q))
      other_hash other true same =
          here q false other ∙ sym (none_checked xs q (by_hash before (hash_of q)) (ap (by_hash before) (sym (eqb-true (hash_of key) (hash_of q) same)) ∙ put.none))
      other_hash other false apart = checked_there q (by_hash before (hash_of q)) refl

      by_test : (b : Bool) → bytes_eq key q ≡ b → first_of (by_key before q) (checked ys q (cond (nat_eq (hash_of key) (hash_of q)) (Some at) (by_hash before (hash_of q)))) ≡ cond b (Some at) (found before xs q)
      by_test true same =
          let equal : key ≡ q = (bytes_eq-Decides key q).0 same in
          ap₂ (λ a b. first_of a (checked ys q (cond b (Some at) (by_hash before (hash_of q))))) (ap (by_key before) (sym equal) ∙ put.none_kept) (eq-eqb (hash_of key) (hash_of q) (ap hash_of equal))
          ∙ here q true same
      by_test false other = ap (first_of (by_key before q)) (other_hash other (nat_eq (hash_of key) (hash_of q)) refl)

  -- where it stands by its key
  by_its_key : IsKept key at before after → (q : List ℕ) → found after ys q ≡ cond (bytes_eq key q) (Some at) (found before xs q)
  by_its_key kept q =
      ap₂ (λ a b. first_of a (checked ys q b)) (kept.by_key q) (kept.by_hash (hash_of q)) ∙ by_test (bytes_eq key q)
    where
      by_test : (b : Bool) → first_of (cond b (Some at) (by_key before q)) (checked ys q (by_hash before (hash_of q))) ≡ cond b (Some at) (found before xs q)
      by_test true = refl
      by_test false = ap (first_of (by_key before q)) (checked_there q (by_hash before (hash_of q)) refl)

  pub put_found : IsPut key at before after → (q : List ℕ) → found after ys q ≡ cond (bytes_eq key q) (Some at) (found before xs q)
  put_found (inl put) q = by_its_hash put q
  put_found (inr kept) q = by_its_key kept q

  pub put_hashed : IsPut key at before after → AreHashed after ys
  put_hashed (inl put) hash k e = by_test (nat_eq (hash_of key) hash) refl
    where
      by_test : (b : Bool) → nat_eq (hash_of key) hash ≡ b → option_map (λ z. hash_of (code z)) (slice_get ys k) ≡ Some hash
      by_test true same =
          let place : Some at ≡ Some k = sym (put.by_hash hash ∙ ap (λ b. cond b (Some at) (by_hash before hash)) same) ∙ e in
          let moved : at ≡ k = cc in
          ap (λ n. option_map (λ z. hash_of (code z)) (slice_get ys n)) (sym moved) ∙ ap (option_map (λ z. hash_of (code z))) is ∙ ap (λ n. Some n) (ap hash_of (sym is_key) ∙ eqb-true (hash_of key) hash same)
      by_test false other = still_hashed hash k (sym (put.by_hash hash ∙ ap (λ b. cond b (Some at) (by_hash before hash)) other) ∙ e)
  put_hashed (inr kept) hash k e = still_hashed hash k (sym (kept.by_hash hash) ∙ e)

pub stands_itself : (xs : List Formula) → StandsIn xs xs
stands_itself xs k z e = e

pub stands_before : (xs : List Formula) (x : Formula) → StandsIn xs (xs ++ x ∷ [])
stands_before [] x k z e = cc
stands_before (y ∷ xs) x zero z e = e
stands_before (y ∷ xs) x (suc k) z e = stands_before xs x k z e

pub last_stands : (xs : List Formula) (x : Formula) → slice_get (xs ++ x ∷ []) (length xs) ≡ Some x
last_stands [] x = refl
last_stands (y ∷ xs) x = last_stands xs x

-- ---- the last formula is taken out

others_stand : (xs : List Formula) (x : Formula) (k : ℕ) → nat_eq k (length xs) ≡ false → slice_get (xs ++ x ∷ []) k ≡ slice_get xs k
others_stand [] x zero e = absurd (clash (nat_eq zero zero) (eq-eqb zero zero refl) e)
others_stand [] x (suc k) e = refl
others_stand (y ∷ xs) x zero e = refl
others_stand (y ∷ xs) x (suc k) e = others_stand xs x k (apart (nat_eq k (length xs)) refl)
  where
    apart : (b : Bool) → nat_eq k (length xs) ≡ b → nat_eq k (length xs) ≡ false
    apart true same = absurd (clash (nat_eq (suc k) (suc (length xs))) (eq-eqb (suc k) (suc (length xs)) (ap suc (eqb-true k (length xs) same))) e)
    apart false other = other

module _ (before after : LookUp) (ys : List Formula) (x : Formula) (key : List ℕ) (at : ℕ) (hashed : AreHashed before (ys ++ x ∷ [])) (end : at ≡ length ys) (is_key : key ≡ code x)
    (fresh : (k : ℕ) (y : Formula) → slice_get ys k ≡ Some y → bytes_eq key (code y) ≡ false) (out : IsLeftOut key at before after) where
  last_is : slice_get (ys ++ x ∷ []) at ≡ Some x
  last_is = ap (slice_get (ys ++ x ∷ [])) end ∙ last_stands ys x

  apart_end : (k : ℕ) → nat_eq k at ≡ false → slice_get (ys ++ x ∷ []) k ≡ slice_get ys k
  apart_end k other = others_stand ys x k (ap (nat_eq k) (sym end) ∙ other)

  -- the hash of what stands at the last place is the key's
  its_hash : (hash k : ℕ) → by_hash before hash ≡ Some k → nat_eq k at ≡ true → nat_eq (hash_of key) hash ≡ true
  its_hash hash k e same =
      let place : k ≡ at = eqb-true k at same in
      let one : Some (hash_of (code x)) ≡ Some hash = ap (option_map (λ z. hash_of (code z))) (sym (ap (slice_get (ys ++ x ∷ [])) place ∙ last_is)) ∙ hashed hash k e in
      let equal : hash_of (code x) ≡ hash = cc in
      eq-eqb (hash_of key) hash (ap hash_of is_key ∙ equal)

  -- what is left by a hash
  left : ℕ → Option ℕ → Option ℕ
  left hash o = cond (nat_eq (hash_of key) hash) (apart_from at o) o

  left_here : (hash k : ℕ) → by_hash before hash ≡ Some k → nat_eq k at ≡ true → left hash (Some k) ≡ None
  unfolding left
  left_here hash k e same = ap₂ (λ b c. cond b (cond c None (Some k)) (Some k)) (its_hash hash k e same) same

  left_other : (hash k : ℕ) → nat_eq k at ≡ false → left hash (Some k) ≡ Some k
  unfolding left
  left_other hash k other = ap (λ c. cond (nat_eq (hash_of key) hash) (cond c None (Some k)) (Some k)) other ∙ either (nat_eq (hash_of key) hash)
    where
      either : (b : Bool) → cond b (Some k) (Some k) ≡ Some k
      either true = refl
      either false = refl

  left_none : (hash : ℕ) → left hash None ≡ None
  unfolding left
  left_none hash = either (nat_eq (hash_of key) hash)
    where
      either : (b : Bool) → cond b (apart_from at None) None ≡ None
      either true = refl
      either false = refl

  checked_left : (q : List ℕ) (o : Option ℕ) → by_hash before (hash_of q) ≡ o → (b : Bool) → bytes_eq key q ≡ b → checked ys q (left (hash_of q) o) ≡ cond b None (checked (ys ++ x ∷ []) q o)
  checked_left q None e b t = none_checked ys q (left (hash_of q) None) (left_none (hash_of q)) ∙ same_both b None
  checked_left q (Some k) e b t = by_place (nat_eq k at) refl b t
    where
      none_here : (o : Option Formula) → slice_get ys k ≡ o → bytes_eq key q ≡ true → has_key q o ≡ false
      none_here None f same = refl
      none_here (Some y) f same = ap (λ (w : List ℕ). bytes_eq w (code y)) (sym ((bytes_eq-Decides key q).0 same)) ∙ fresh k y f

      by_place : (c : Bool) → nat_eq k at ≡ c → (b : Bool) → bytes_eq key q ≡ b → checked ys q (left (hash_of q) (Some k)) ≡ cond b None (checked (ys ++ x ∷ []) q (Some k))
      by_place true same true t = none_checked ys q (left (hash_of q) (Some k)) (left_here (hash_of q) k e same)
      by_place true same false t =
          none_checked ys q (left (hash_of q) (Some k)) (left_here (hash_of q) k e same)
          ∙ sym (ap (λ f. cond (has_key q f) (Some k) None) (ap (slice_get (ys ++ x ∷ [])) (eqb-true k at same) ∙ last_is) ∙ ap (λ w. cond (bytes_eq q w) (Some k) None) (sym is_key) ∙ ap (λ c. cond c (Some k) None) (bytes_eq-flip q key ∙ t))
      by_place false other true t =
          ap (checked ys q) (left_other (hash_of q) k other) ∙ ap (λ c. cond c (Some k) None) (none_here (slice_get ys k) refl t)
      by_place false other false t =
          ap (checked ys q) (left_other (hash_of q) k other) ∙ ap (λ f. cond (has_key q f) (Some k) None) (sym (apart_end k other))

  both_left : (b : Bool) (m n : Option ℕ) → first_of (cond b None m) (cond b None n) ≡ cond b None (first_of m n)
  both_left true m n = refl
  both_left false m n = refl

  pub back_found : (q : List ℕ) → found after ys q ≡ cond (bytes_eq key q) None (found before (ys ++ x ∷ []) q)
  unfolding left
  back_found q =
      ap₂ (λ a b. first_of a (checked ys q b)) (out.by_key q) (out.by_hash (hash_of q))
      ∙ ap (first_of (cond (bytes_eq key q) None (by_key before q))) (checked_left q (by_hash before (hash_of q)) refl (bytes_eq key q) refl)
      ∙ both_left (bytes_eq key q) (by_key before q) (checked (ys ++ x ∷ []) q (by_hash before (hash_of q)))

  pub back_hashed : AreHashed after ys
  unfolding left
  back_hashed hash n e = by_place (by_hash before hash) refl (sym (out.by_hash hash) ∙ e)
    where
      by_place : (o : Option ℕ) → by_hash before hash ≡ o → left hash o ≡ Some n → option_map (λ z. hash_of (code z)) (slice_get ys n) ≡ Some hash
      by_place None f g = let no : None ≡ Some n = sym (left_none hash) ∙ g in cc
      by_place (Some k) f g = by_test (nat_eq k at) refl
        where
          by_test : (c : Bool) → nat_eq k at ≡ c → option_map (λ z. hash_of (code z)) (slice_get ys n) ≡ Some hash
          by_test true same = let no : None ≡ Some n = sym (left_here hash k f same) ∙ g in cc
          by_test false other =
              let place : Some k ≡ Some n = sym (left_other hash k other) ∙ g in
              let moved : k ≡ n = cc in
              ap (λ m. option_map (λ z. hash_of (code z)) (slice_get ys m)) (sym moved) ∙ ap (option_map (λ z. hash_of (code z))) (sym (apart_end k other)) ∙ hashed hash k f
