-- Entries in the order of their foldings: what a binary search keeps, and what it finds.
use Rattle.std.proofs.Common.{inl, inr, ◌≡◌, ℕ, ◌+◌, ◌<◌, ◌≤◌, suc, zero, Bool, true, false, not, List, [], ◌∷◌, ◌++◌, length, get_or, take, drop, map, bytes_eq, Bor, chars, MatchOption, Option, Some, None, option_map, refl, sym, ap, ap₂, subst, ◌∙◌, arith, add-one, cond}
use Rattle.std.proofs.lemmas.Bool.{cases_eq, and_parts, and_from, both_ways, cond-true, cond-false, false_from_ne_true, true_from_ne_false, not-true, not_from_false}
use Rattle.std.proofs.lemmas.Cmp.{nat_list_cmp_total, upto}
use Rattle.std.proofs.lemmas.List.{get_or_append_left, get_or_default, get_or_push, length_push, drop_more, take_more, take-append-drop}
use Rattle.std.proofs.lemmas.Map.Text.{is_eq-slice_cmp}
use Rattle.std.proofs.lemmas.Slice.Eq.{bytes_eq-Decides}
use Rattle.std.specs.Cmp.Lexicographic.{slice_cmp}
use Rattle.std.specs.List.{insert, list_all}
use Rattle.std.specs.Ordering.{nat_cmp, ordering_reverse, is_eq, is_lt, is_gt}
use Rattle.std.specs.declared.cmp.Ordering.{Ordering}
use Rattle.std.specs.declared.cmp.Ordering.TheVariants.{Less, Equal, Greater}
use Rattle.ic_laws.specs.Name.{agrees, fold}
use Rattle.ic_tables.specs.Order.{AreOrderedTo, OrdersWords, BeginsWithFound, BeginsWithNone, FoldsFront, FoldsNoFront, IsOrderOf, IsOrderFrom, IsPutFirst, agreeing_from, comes_before, is_sorted, number_at}
use Rattle.ic_tables.specs.Words.{first_agreeing}
use Rattle.ic_tables.specs.declared.language.Language.{Language}
use Rattle.ic_tables.specs.declared.order.WordEntry.{WordEntry}
use Rattle.ic_tables.specs.declared.order.WordOrder.{WordOrder}

lt_of_reverse : (o : Ordering) → is_lt (ordering_reverse o) ≡ is_gt o
lt_of_reverse Less = refl
lt_of_reverse Equal = refl
lt_of_reverse Greater = refl

-- one comes before another where the other comes after it
pub before_back : (a b : List ℕ) → comes_before a b ≡ is_gt (slice_cmp nat_cmp b a)
before_back a b = ap is_lt (nat_list_cmp_total.antisymm a b) ∙ lt_of_reverse (slice_cmp nat_cmp b a)

-- not before, through a third
pub not_before : (f e key : List ℕ) → comes_before e key ≡ false → comes_before f e ≡ false → comes_before f key ≡ false
not_before f e key p q =
    before_back f key ∙ upto nat_list_cmp_total key e f (sym (before_back e key) ∙ p) (sym (before_back f e) ∙ q)

-- before, through a third
pub before : (e m key : List ℕ) → comes_before m e ≡ false → comes_before m key ≡ true → comes_before e key ≡ true
before e m key p q = true_from_ne_false (comes_before e key) (λ n. both_ways (comes_before m key) (not_before m e key n p) q)

lt_is : (o : Ordering) → is_lt o ≡ true → o ≡ Less
lt_is Less h = refl
lt_is Equal h = cc
lt_is Greater h = cc

-- what comes before is not after
pub not_both : (a b : List ℕ) → comes_before a b ≡ true → comes_before b a ≡ false
not_both a b h = before_back b a ∙ ap is_gt (lt_is (slice_cmp nat_cmp a b) h)

-- nor the same
pub before_other : (a b : List ℕ) → comes_before a b ≡ true → bytes_eq a b ≡ false
before_other a b h = sym (is_eq-slice_cmp a b) ∙ ap is_eq (lt_is (slice_cmp nat_cmp a b) h)

-- what stands after something else than the key, which does not come before the key, is not the key
pub after_other : (f e key : List ℕ) → comes_before e key ≡ false → bytes_eq e key ≡ false → comes_before f e ≡ false → bytes_eq f key ≡ false
after_other f e key p q r =
    false_from_ne_true (bytes_eq f key) (λ s.
    let same : f ≡ key = (bytes_eq-Decides f key).0 s in
    both_ways (bytes_eq e key) q (tied (subst (λ x. comes_before x e ≡ false) same r)))
  where
    tied : comes_before key e ≡ false → bytes_eq e key ≡ true
    tied k = sym (is_eq-slice_cmp e key) ∙ neither (slice_cmp nat_cmp e key) p (sym (before_back key e) ∙ k)
      where
        neither : (o : Ordering) → is_lt o ≡ false → is_gt o ≡ false → is_eq o ≡ true
        neither Less h g = cc
        neither Equal h g = refl
        neither Greater h g = cc

pub ruleset before_steps = (before_back)

all_at : (p : WordEntry → Bool) (es : List WordEntry) (i : ℕ) (d : WordEntry) → i < length es → list_all p es ≡ true → p (get_or es i d) ≡ true
all_at p [] i d h a = absurd (omega arith)
all_at p (e ∷ es) zero d h a = (and_parts (p e) (list_all p es) a).0
all_at p (e ∷ es) (suc i) d h a = all_at p es i d (omega arith) (and_parts (p e) (list_all p es) a).1

all_from : (p q : WordEntry → Bool) (es : List WordEntry) → ((e : WordEntry) → p e ≡ true → q e ≡ true) → list_all p es ≡ true → list_all q es ≡ true
all_from p q [] f a = refl
all_from p q (e ∷ es) f a =
    let parts = and_parts (p e) (list_all p es) a in and_from (q e) (list_all q es) (f e parts.0) (all_from p q es f parts.1)

-- the entries that come before a folding, and those that don't
abbrev is_low : List ℕ → WordEntry → Bool
is_low key e = comes_before e.folded key

abbrev is_high : List ℕ → WordEntry → Bool
is_high key e = not (comes_before e.folded key)

module _ (key : List ℕ) where
  -- with an entry come all before it
  low_to : (es : List WordEntry) (i : ℕ) (d : WordEntry) → is_sorted es ≡ true → i < length es → comes_before (get_or es i d).folded key ≡ true → list_all (is_low key) (take (suc i) es) ≡ true
  low_to [] i d s h b = absurd (omega arith)
  low_to (e ∷ es) zero d s h b = and_from (is_low key e) true b refl
  low_to (e ∷ es) (suc i) d s h b =
      let parts = and_parts (list_all (is_high e.folded) es) (is_sorted es) s in
      let l : i < length es = omega arith in
      and_from (is_low key e) (list_all (is_low key) (take (suc i) es))
      (before e.folded (get_or es i d).folded key (not-true _ (all_at (is_high e.folded) es i d l parts.0)) b) (low_to es i d parts.1 l b)

  -- and with one that doesn't, none after it
  high_from : (es : List WordEntry) (i : ℕ) (d : WordEntry) → is_sorted es ≡ true → i < length es → comes_before (get_or es i d).folded key ≡ false → list_all (is_high key) (drop i es) ≡ true
  high_from [] i d s h b = absurd (omega arith)
  high_from (e ∷ es) zero d s h b =
      let parts = and_parts (list_all (is_high e.folded) es) (is_sorted es) s in
      and_from (is_high key e) (list_all (is_high key) es) (not_from_false _ b)
      (all_from (is_high e.folded) (is_high key) es (λ f n. not_from_false _ (not_before f.folded e.folded key b (not-true _ n))) parts.0)
  high_from (e ∷ es) (suc i) d s h b = high_from es i d (and_parts (list_all (is_high e.folded) es) (is_sorted es) s).1 (omega arith) b

  none_of : (es : List WordEntry) → list_all (λ e. not (bytes_eq e.folded key)) es ≡ true → number_at es key ≡ None
  none_of [] a = refl
  none_of (e ∷ es) a =
      let parts = and_parts (not (bytes_eq e.folded key)) (list_all (λ f. not (bytes_eq f.folded key)) es) a in
      cond-false (bytes_eq e.folded key) (Some e.number) (number_at es key) (not-true _ parts.0) ∙ none_of es parts.1

  -- the first entry that doesn't come before a folding tells whether one has it
  pub found_here : (es : List WordEntry) (p : ℕ) (d : WordEntry) → list_all (is_low key) (take p es) ≡ true → p < length es → slice_cmp nat_cmp key (get_or es p d).folded ≡ Equal → number_at es key ≡ Some (get_or es p d).number
  found_here [] p d low h same = absurd (omega arith)
  found_here (e ∷ es) zero d low h same =
      cond-true (bytes_eq e.folded key) (Some e.number) (number_at es key)
      ((bytes_eq-Decides e.folded key).1 (sym ((bytes_eq-Decides key e.folded).0 (sym (is_eq-slice_cmp key e.folded) ∙ ap is_eq same))))
  found_here (e ∷ es) (suc p) d low h same =
      let parts = and_parts (is_low key e) (list_all (is_low key) (take p es)) low in
      cond-false (bytes_eq e.folded key) (Some e.number) (number_at es key) (before_other e.folded key parts.0) ∙ found_here es p d parts.1 (omega arith) same

  pub found_nowhere : (es : List WordEntry) (p : ℕ) (d : WordEntry) → is_sorted es ≡ true → list_all (is_low key) (take p es) ≡ true → list_all (is_high key) (drop p es) ≡ true → p < length es → is_eq (slice_cmp nat_cmp key (get_or es p d).folded) ≡ false → number_at es key ≡ None
  found_nowhere [] p d s low high h other = refl
  found_nowhere (e ∷ es) zero d s low high h other =
      let parts = and_parts (list_all (is_high e.folded) es) (is_sorted es) s in
      let first = not-true (comes_before e.folded key) (and_parts (is_high key e) (list_all (is_high key) es) high).0 in
      let apart = false_from_ne_true (bytes_eq e.folded key) (λ t. both_ways (is_eq (slice_cmp nat_cmp key e.folded)) other
      (is_eq-slice_cmp key e.folded ∙ (bytes_eq-Decides key e.folded).1 (sym ((bytes_eq-Decides e.folded key).0 t)))) in
      none_of (e ∷ es) (and_from (not (bytes_eq e.folded key)) (list_all (λ f. not (bytes_eq f.folded key)) es) (not_from_false _ apart)
      (all_from (is_high e.folded) (λ f. not (bytes_eq f.folded key)) es (λ f n. not_from_false _ (after_other f.folded e.folded key first apart (not-true _ n))) parts.0))
  found_nowhere (e ∷ es) (suc p) d s low high h other =
      let parts = and_parts (is_low key e) (list_all (is_low key) (take p es)) low in
      cond-false (bytes_eq e.folded key) (Some e.number) (number_at es key) (before_other e.folded key parts.0)
      ∙ found_nowhere es p d (and_parts (list_all (is_high e.folded) es) (is_sorted es) s).1 parts.1 high (omega arith) other

  pub found_past : (es : List WordEntry) (p : ℕ) → list_all (is_low key) (take p es) ≡ true → length es ≤ p → number_at es key ≡ None
  found_past [] p low h = refl
  found_past (e ∷ es) zero low h = absurd (omega arith)
  found_past (e ∷ es) (suc p) low h =
      let parts = and_parts (is_low key e) (list_all (is_low key) (take p es)) low in
      cond-false (bytes_eq e.folded key) (Some e.number) (number_at es key) (before_other e.folded key parts.0) ∙ found_past es p parts.1 (omega arith)

  pub low_more : (es : List WordEntry) (i : ℕ) (d : WordEntry) → is_sorted es ≡ true → i < length es → comes_before (get_or es i d).folded key ≡ true → list_all (is_low key) (take (i + 1) es) ≡ true
  low_more es i d s h b = ap (λ n. list_all (is_low key) (take n es)) (add-one i) ∙ low_to es i d s h b

  pub high_more : (es : List WordEntry) (i : ℕ) (d : WordEntry) → is_sorted es ≡ true → i < length es → comes_before (get_or es i d).folded key ≡ false → list_all (is_high key) (drop i es) ≡ true
  high_more = high_from

-- an entry in front of those that don't come before it
module _ (new : WordEntry) where
  put_all : (q : WordEntry → Bool) (es : List WordEntry) (p : ℕ) → q new ≡ true → list_all q es ≡ true → list_all q (insert es p new) ≡ true
  put_all q [] zero n a = and_from (q new) true n refl
  put_all q [] (suc p) n a = and_from (q new) true n refl
  put_all q (e ∷ es) zero n a = and_from (q new) _ n a
  put_all q (e ∷ es) (suc p) n a = let parts = and_parts (q e) (list_all q es) a in and_from (q e) _ parts.0 (put_all q es p n parts.1)

  put_sorted : (es : List WordEntry) (p : ℕ) → is_sorted es ≡ true → list_all (is_low new.folded) (take p es) ≡ true → list_all (is_high new.folded) (drop p es) ≡ true → is_sorted (insert es p new) ≡ true
  put_sorted [] zero s low high = refl
  put_sorted [] (suc p) s low high = refl
  put_sorted (e ∷ es) zero s low high = and_from (list_all (is_high new.folded) (e ∷ es)) (is_sorted (e ∷ es)) high s
  put_sorted (e ∷ es) (suc p) s low high =
      let parts = and_parts (list_all (is_high e.folded) es) (is_sorted es) s in
      let lows = and_parts (is_low new.folded e) (list_all (is_low new.folded) (take p es)) low in
      and_from (list_all (is_high e.folded) (insert es p new)) (is_sorted (insert es p new))
      (put_all (is_high e.folded) es p (not_from_false _ (not_both e.folded new.folded lows.0)) parts.0) (put_sorted es p parts.1 lows.1 high)

  put_numbers : (es : List WordEntry) (p : ℕ) (key : List ℕ) → list_all (is_low new.folded) (take p es) ≡ true → number_at (insert es p new) key ≡ cond (bytes_eq new.folded key) (Some new.number) (number_at es key)
  put_numbers [] zero key low = refl
  put_numbers [] (suc p) key low = refl
  put_numbers (e ∷ es) zero key low = refl
  put_numbers (e ∷ es) (suc p) key low =
      let lows = and_parts (is_low new.folded e) (list_all (is_low new.folded) (take p es)) low in
      ap (cond (bytes_eq e.folded key) (Some e.number)) (put_numbers es p key lows.1)
      ∙ swapped e.number new.number (number_at es key) (bytes_eq e.folded key) (bytes_eq new.folded key) (λ t u. both_ways (bytes_eq e.folded new.folded) (before_other e.folded new.folded lows.0)
      ((bytes_eq-Decides e.folded new.folded).1 ((bytes_eq-Decides e.folded key).0 t ∙ sym ((bytes_eq-Decides new.folded key).0 u))))
    where
      swapped : (x y : ℕ) (z : Option ℕ) (a b : Bool) → (a ≡ true → b ≡ true → ⊥) → cond a (Some x) (cond b (Some y) z) ≡ cond b (Some y) (cond a (Some x) z)
      swapped x y z true true n = absurd (n refl refl)
      swapped x y z true false n = refl
      swapped x y z false true n = refl
      swapped x y z false false n = refl

-- where the entry goes to the place that a search of the same entries gave
pub put_first : (folded key : List ℕ) (n p : ℕ) (es slice made : List WordEntry) → slice ≡ es → made ≡ insert es p (record { folded = folded; number = n }) → folded ≡ key → is_sorted es ≡ true → list_all (is_low key) (take p slice) ≡ true → list_all (is_high key) (drop p slice) ≡ true → IsPutFirst key n es made
put_first folded key n p es slice made same is e s low high =
    let new : WordEntry = record { folded = folded; number = n } in
    let lows : list_all (is_low folded) (take p es) ≡ true = ap₂ (λ k l. list_all (is_low k) (take p l)) e (sym same) ∙ low in
    let highs : list_all (is_high folded) (drop p es) ≡ true = ap₂ (λ k l. list_all (is_high k) (drop p l)) e (sym same) ∙ high in
    subst (λ k. IsPutFirst k n es made) e
    (subst (λ l. IsPutFirst folded n es l) (sym is)
    (record { sorted = put_sorted new es p s lows highs; numbers = λ other. put_numbers new es p other lows }))

pub order_more : (n m : ℕ) (words : List (List ℕ)) (w : List ℕ) (old es : List WordEntry) → m ≡ n + 1 → n < length words → w ≡ get_or words n w → IsOrderFrom m (drop m words) old → IsPutFirst (fold w) n old es → IsOrderFrom n (drop n words) es
order_more n m words w old es next h at before put =
    let later : IsOrderFrom (n + 1) (drop (n + 1) words) old = subst (λ k. IsOrderFrom k (drop k words) old) next before in
    subst (λ ws. IsOrderFrom n ws es) (sym (drop_more words n w h ∙ ap (λ x. x ∷ drop (n + 1) words) (sym at)))
    (record {
      sorted = put.sorted;
      numbers = λ text. put.numbers (fold text) ∙ ap (cond (bytes_eq (fold w) (fold text)) (Some n)) (later.numbers text);
    })

-- a word that was read from a list of things with words
pub read_word : {T : Type 0} (word : T → List ℕ) (xs : List T) (n : ℕ) (x : T) (w : List ℕ) → w ≡ word x → x ≡ get_or xs n x → w ≡ get_or (map word xs) n w
read_word word [] n x w e at = refl
read_word word (y ∷ ys) zero x w e at = e ∙ ap word at
read_word word (y ∷ ys) (suc n) x w e at = read_word word ys n x w e at

from_one : (b : Bool) (n : ℕ) (o x : Option ℕ) → x ≡ option_map (λ k. n + 1 + k) o → cond b (Some n) x ≡ option_map (λ k. n + k) (cond b (Some 0) (option_map (λ k. suc k) o))
from_one true n o x e = ap Some (omega arith)
from_one false n None x e = e
from_one false n (Some k) x e = e ∙ ap Some (omega arith)

from_is : (n : ℕ) (ws : List (List ℕ)) (text : List ℕ) → agreeing_from n ws text ≡ option_map (λ k. n + k) (first_agreeing ws text)
from_is n [] text = refl
from_is n (w ∷ ws) text = from_one (agrees w text) n (first_agreeing ws text) (agreeing_from (n + 1) ws text) (from_is (n + 1) ws text)

from_zero : (o : Option ℕ) → option_map (λ k. 0 + k) o ≡ o
from_zero None = refl
from_zero (Some k) = ap Some (omega arith)

pub order_done : (n : ℕ) (words : List (List ℕ)) (es made : List WordEntry) → n ≤ 0 → made ≡ es → IsOrderFrom n (drop n words) es → IsOrderOf words made
order_done n words es made none is k =
    let zero_is : n ≡ 0 = omega arith in
    let all : IsOrderFrom 0 words es = subst (λ m. IsOrderFrom m (drop m words) es) zero_is k in
    subst (IsOrderOf words) (sym is)
    (record { sorted = all.sorted; numbers = λ text. all.numbers text ∙ from_is 0 words text ∙ from_zero (first_agreeing words text) })

not_equal : (o : Ordering) → (o ≡ Equal → ⊥) → is_eq o ≡ false
not_equal Less n = refl
not_equal Equal n = absurd (n refl)
not_equal Greater n = refl

-- where the entry at the place has another folding
pub found_other : (key : List ℕ) (es : List WordEntry) (p : ℕ) (e : WordEntry) (o : Ordering) → is_sorted es ≡ true → list_all (is_low key) (take p es) ≡ true → list_all (is_high key) (drop p es) ≡ true → p < length es → e ≡ get_or es p e → o ≡ slice_cmp nat_cmp key e.folded → (o ≡ Equal → ⊥) → number_at es key ≡ None
found_other key es p e o s low high h at is n =
    found_nowhere key es p e s low high h (ap (λ x. is_eq (slice_cmp nat_cmp key x.folded)) (sym at) ∙ ap is_eq (sym is) ∙ not_equal o n)

pub ruleset find_steps = (found_here, found_past)

pub ruleset place_steps = (low_more, high_more)

-- fronts that fold to none of the entries so far
number_before : (a b : List WordEntry) (key : List ℕ) → number_at a key ≡ None → number_at (a ++ b) key ≡ number_at b key
number_before [] b key h = refl
number_before (e ∷ a) b key h = split (bytes_eq e.folded key) e.number (number_at a key) (number_at (a ++ b) key) (number_at b key) h (number_before a b key)
  where
    split : (t : Bool) (n : ℕ) (x y z : Option ℕ) → cond t (Some n) x ≡ None → (x ≡ None → y ≡ z) → cond t (Some n) y ≡ z
    split true n x y z h f = cc
    split false n x y z h f = f h

pub front_not_yet : (text : List ℕ) (es : List WordEntry) (i : ℕ) (e : WordEntry) → i < length es → e ≡ get_or es i e → BeginsWithNone (λ front. number_at (take i es) (fold front)) text → FoldsNoFront e.folded text → BeginsWithNone (λ front. number_at (take (i + 1) es) (fold front)) text
front_not_yet text es i e h at before none front rest split =
    ap (λ l. number_at l (fold front)) (take_more es i e h ∙ ap (λ x. take i es ++ x ∷ []) (sym at))
    ∙ number_before (take i es) (e ∷ []) (fold front) (before front rest split)
    ∙ cond-false (bytes_eq e.folded (fold front)) (Some e.number) None (swap (none front rest split))
  where
    swap : bytes_eq (fold front) e.folded ≡ false → bytes_eq e.folded (fold front) ≡ false
    swap n = false_from_ne_true (bytes_eq e.folded (fold front)) (λ t. both_ways (bytes_eq (fold front) e.folded) n ((bytes_eq-Decides (fold front) e.folded).1 (sym ((bytes_eq-Decides e.folded (fold front)).0 t))))

pub front_found : (text rest : List ℕ) (es : List WordEntry) (i : ℕ) (e : WordEntry) → i < length es → e ≡ get_or es i e → BeginsWithNone (λ front. number_at (take i es) (fold front)) text → FoldsFront e.folded text rest → BeginsWithFound (λ front. number_at es (fold front)) text rest e.number
front_found text rest es i e h at before f =
    record {
      front = f.front;
      split = f.split;
      found =
          ap (λ l. number_at l (fold f.front)) (sym (take-append-drop i es) ∙ ap (λ l. take i es ++ l) (drop_more es i e h ∙ ap (λ x. x ∷ drop (i + 1) es) (sym at)))
          ∙ number_before (take i es) (e ∷ drop (i + 1) es) (fold f.front) (before f.front rest f.split)
          ∙ cond-true (bytes_eq e.folded (fold f.front)) (Some e.number) _ ((bytes_eq-Decides e.folded (fold f.front)).1 (sym f.folds));
    }

-- what the entries of some words find is what the words find
pub error_found : (words : List (List ℕ)) (es : List WordEntry) (text rest : List ℕ) (n : ℕ) → IsOrderOf words es → BeginsWithFound (λ front. number_at es (fold front)) text rest n → BeginsWithFound (first_agreeing words) text rest n
error_found words es text rest n o f = record { front = f.front; split = f.split; found = sym (o.numbers f.front) ∙ f.found }

pub error_nowhere : (words : List (List ℕ)) (es : List WordEntry) (text : List ℕ) → IsOrderOf words es → BeginsWithNone (λ front. number_at es (fold front)) text → BeginsWithNone (first_agreeing words) text
error_nowhere words es text o none front rest split = sym (o.numbers front) ∙ none front rest split

pub error_any : (words : List (List ℕ)) (es slice : List WordEntry) (text : List ℕ) (r : Option (ℕ × Bor (List ℕ))) → slice ≡ es → IsOrderOf words es → MatchOption r (BeginsWithNone (λ front. number_at slice (fold front)) text) (λ p. BeginsWithFound (λ front. number_at slice (fold front)) text (chars p.1.now) p.0) → MatchOption r (BeginsWithNone (first_agreeing words) text) (λ p. BeginsWithFound (first_agreeing words) text (chars p.1.now) p.0)
error_any words es slice text None same o h = error_nowhere words slice text (subst (IsOrderOf words) (sym same) o) h
error_any words es slice text (Some p) same o h = error_found words slice text _ _ (subst (IsOrderOf words) (sym same) o) h

pub ordered_more : (n : ℕ) (ls : List Language) (os made : List WordOrder) (l : Language) (o : WordOrder) → n < length ls → l ≡ get_or ls n l → made ≡ os ++ o ∷ [] → OrdersWords l o → AreOrderedTo n ls os → AreOrderedTo (n + 1) ls made
ordered_more n ls os made l o h at is this so_far =
    record {
      many = ap length is ∙ length_push os o ∙ ap (λ k. k + 1) so_far.many;
      each = λ k m p within m_at p_at.
          elim (cases_eq k n) [
            | inl same ↦
                let m_is : m ≡ l = m_at ∙ ap (λ j. get_or ls j m) same ∙ get_or_default ls n m l h ∙ sym at in
                let p_is : p ≡ o = p_at ∙ ap₂ (λ items j. get_or items j p) is same ∙ get_or_push os o p n so_far.many in
                subst (λ x. OrdersWords x p) (sym m_is) (subst (OrdersWords l) (sym p_is) this)
            | inr other ↦
                let below : k < n = omega arith in
                let many : length os ≡ n = so_far.many in
                let within_old : k < length os = omega arith in
                so_far.each k m p below m_at (p_at ∙ ap (λ items. get_or items k p) is ∙ get_or_append_left os (o ∷ []) p k within_old)
          ];
    }
