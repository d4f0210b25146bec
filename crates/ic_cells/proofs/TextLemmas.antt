-- The texts are found as the list changes.
use Rattle.std.proofs.Common.{◌≡◌, inl, inr, ℕ, zero, suc, ◌<◌, ◌+◌, List, [], ◌∷◌, ◌++◌, Bool, true, false, cond, Option, Some, None, refl, sym, ap, ap₂, subst, ◌∙◌, length, take, ltb, ltb-true, lt-ltb, eq-eqb, eqb-true, bytes_eq, encode_utf8_all, map, chars, string_bytes, String, arith}
use Rattle.std.specs.Prelude.{nat_eq}
use Rattle.std.proofs.lemmas.List.{length-append, length-take}
use Rattle.std.proofs.lemmas.Map.Entries.{lookup-filter-values, option_filter}
use Rattle.std.proofs.lemmas.Slice.Eq.{bytes_eq-Decides}
use Rattle.std.proofs.lemmas.Str.{encodes-chars, encodes_same}
use Rattle.std.proofs.lemmas.Cmp.{nat_cmp_total, nat_list_cmp_total}
use Rattle.std.proofs.lemmas.Map.Keys.{IsDistinct-from_sorted}
use Rattle.std.specs.BTreeMap.{BTreeMap, IsOrdered, get, get_by_text, keys}
use Rattle.std.specs.Cmp.{eq_by_cmp_equiv}
use Rattle.std.specs.Cmp.Lexicographic.{slice_cmp}
use Rattle.std.specs.Bool.{one_answer}
use Rattle.std.specs.List.{AllByRecursion, filter, slice_get}
use Rattle.std.specs.List.Sorted.{IsStrictlySortedBy}
use Rattle.std.specs.Map.{keys_of, lookup}
use Rattle.std.specs.Ordering.{is_eq, nat_cmp}
use Rattle.std.specs.Str.{IsUtf8}
use Rattle.std.specs.String.{string_cmp}
use Rattle.std.specs.declared.alloc.Global.{Global}
use Rattle.std.specs.declared.cmp.Ordering.TheVariants.{Less}
use Rattle.ic_cells.specs.Key.{place_by_key}
use Rattle.ic_cells.specs.Strings.{IsKnown, string_place}
use Rattle.ic_cells.specs.TextPlaces.{Finds, IsHashed, IsKept, IsPut, KeepsFirst, below, checked, first_of, has_bytes, hash_of, text_found}
use Rattle.ic_cells.specs.declared.text_places.TextPlaces.{TextPlaces}
use Rattle.ic_cells.proofs.PlacedLemmas.{apart-push, apart-take, key-push, key-take, place_is}
use Rattle.ic_laws.proofs.General.{bytes_eq-flip}

abbrev first_place : List ℕ → List (List ℕ) → Option ℕ
first_place bytes texts = place_by_key encode_utf8_all bytes texts

-- ---- by bytes and by characters

-- texts are equal exactly where their bytes are
pub same_bytes : (a b : List ℕ) → bytes_eq (encode_utf8_all a) (encode_utf8_all b) ≡ bytes_eq a b
same_bytes a b =
    one_answer _ _ (bytes_eq-Decides (encode_utf8_all a) (encode_utf8_all b))
    ((λ e. ap encode_utf8_all ((bytes_eq-Decides a b).0 e)), (λ e. (bytes_eq-Decides a b).1 (encodes_same a b e)))

-- texts are compared by characters
pub same_text : (bytes other : List ℕ) → IsUtf8 bytes → bytes_eq other (chars bytes) ≡ bytes_eq bytes (encode_utf8_all other)
same_text bytes other utf8 =
    sym (same_bytes other (chars bytes))
    ∙ bytes_eq-flip (encode_utf8_all other) (encode_utf8_all (chars bytes))
    ∙ ap (λ b. bytes_eq b (encode_utf8_all other)) (encodes-chars bytes utf8)

-- the search by bytes is the search by texts
place_of_bytes : (text : List ℕ) (texts : List (List ℕ)) → first_place (encode_utf8_all text) texts ≡ string_place text texts
place_of_bytes text texts = place_is encode_utf8_all bytes_eq same_bytes text texts

-- a text is found at its first place
pub found : (places : TextPlaces) (texts : List (List ℕ)) (bytes : List ℕ) → IsUtf8 bytes → IsKnown places texts → text_found places texts bytes ≡ string_place (chars bytes) texts
found places texts bytes utf8 known =
    known.finds.found bytes
    ∙ ap (λ b. first_place b texts) (sym (encodes-chars bytes utf8)) ∙ place_of_bytes (chars bytes) texts

-- ---- the same indexes

-- ---- a text at the end

get_before : {X : Type 0} (x : X) (k : ℕ) (xs : List X) → k < length xs → slice_get (xs ++ x ∷ []) k ≡ slice_get xs k
get_before x k [] lt = absurd (omega (arith, lt))
get_before x zero (y ∷ xs) lt = refl
get_before x (suc k) (y ∷ xs) lt = get_before x k xs (omega (arith, lt))

get_end : {X : Type 0} (x : X) (xs : List X) → slice_get (xs ++ x ∷ []) (length xs) ≡ Some x
get_end x [] = refl
get_end x (y ∷ xs) = get_end x xs

apart_from_itself : (n : ℕ) → nat_eq n n ≡ false → ⊥
apart_from_itself n e = let no : true ≡ false = sym (eq-eqb n n refl) ∙ e in cc

-- an index within the list is checked as before
checked_before : (text : List ℕ) (texts : List (List ℕ)) (bytes : List ℕ) (o : Option ℕ) → ((at : ℕ) → o ≡ Some at → at < length texts) → checked (texts ++ text ∷ []) bytes o ≡ checked texts bytes o
checked_before text texts bytes None within = refl
checked_before text texts bytes (Some at) within = ap (λ t. cond (has_bytes bytes t) (Some at) None) (get_before text at texts (within at refl))

-- where none is found, neither finds one
none_both : (a b : Option ℕ) → first_of a b ≡ None → (a ≡ None) × (b ≡ None)
none_both None b e = (refl, e)
none_both (Some at) b e = cc

module _ (before after : TextPlaces) (texts : List (List ℕ)) (text : List ℕ) (finds : Finds before texts) (none : first_place (encode_utf8_all text) texts ≡ None) where
  abbrev key : List ℕ
  key = encode_utf8_all text

  abbrev by_hash : TextPlaces → List ℕ → Option ℕ
  by_hash places bytes = get nat_cmp places.by_hash (hash_of bytes)

  abbrev by_text : TextPlaces → List ℕ → Option ℕ
  by_text places bytes = get_by_text places.by_text bytes

  abbrev longer : List (List ℕ)
  longer = texts ++ text ∷ []

  pushed : (bytes : List ℕ) → first_place bytes longer ≡ cond (bytes_eq key bytes) (Some (length texts)) (first_place bytes texts)
  pushed bytes = key-push encode_utf8_all text texts none bytes

  old_checked : (bytes : List ℕ) → checked longer bytes (by_hash before bytes) ≡ checked texts bytes (by_hash before bytes)
  old_checked bytes = checked_before text texts bytes (by_hash before bytes) (λ at e. finds.within (hash_of bytes) at e)

  longer_by_one : length longer ≡ length texts + 1
  longer_by_one = length-append texts (text ∷ [])

  stays_first : (bytes : List ℕ) (at : ℕ) → first_place bytes texts ≡ Some at → first_place bytes longer ≡ Some at
  stays_first bytes at e = by_test (bytes_eq key bytes) refl
    where
      by_test : (b : Bool) → bytes_eq key bytes ≡ b → first_place bytes longer ≡ Some at
      by_test true same = let no : None ≡ Some at = sym none ∙ ap (λ k. first_place k texts) ((bytes_eq-Decides key bytes).0 same) ∙ e in cc
      by_test false other = pushed bytes ∙ ap (λ b. cond b (Some (length texts)) (first_place bytes texts)) other ∙ e

  -- under its hash
  module _ (put : IsHashed key (length texts) before after) where
    at_hash : (hash : ℕ) (b : Bool) → nat_eq (hash_of key) hash ≡ b → get nat_cmp after.by_hash hash ≡ cond b (Some (length texts)) (get nat_cmp before.by_hash hash)
    at_hash hash b e = put.by_hash hash ∙ ap (λ b. cond b (Some (length texts)) (get nat_cmp before.by_hash hash)) e

    hashed_found : (bytes : List ℕ) → text_found after longer bytes ≡ first_place bytes longer
    hashed_found bytes = by_test (bytes_eq key bytes) refl (nat_eq (hash_of key) (hash_of bytes)) refl
      where
        here : (b : Bool) → bytes_eq key bytes ≡ b → checked longer bytes (Some (length texts)) ≡ cond b (Some (length texts)) None
        here b e = ap (λ t. cond (has_bytes bytes t) (Some (length texts)) None) (get_end text texts) ∙ ap (λ b. cond b (Some (length texts)) None) (bytes_eq-flip bytes key ∙ e)

        by_test : (b : Bool) → bytes_eq key bytes ≡ b → (h : Bool) → nat_eq (hash_of key) (hash_of bytes) ≡ h → text_found after longer bytes ≡ first_place bytes longer
        by_test true same true h =
            ap (λ o. first_of o (by_text after bytes)) (ap (checked longer bytes) (at_hash (hash_of bytes) true h) ∙ here true same)
            ∙ sym (pushed bytes ∙ ap (λ b. cond b (Some (length texts)) (first_place bytes texts)) same)
        by_test true same false h =
            let is : nat_eq (hash_of key) (hash_of key) ≡ false = ap (λ k. nat_eq (hash_of key) (hash_of k)) ((bytes_eq-Decides key bytes).0 same) ∙ h in
            absurd (apart_from_itself (hash_of key) is)
        by_test false other true h =
            let gone : by_hash before bytes ≡ None = ap (get nat_cmp before.by_hash) (sym (eqb-true (hash_of key) (hash_of bytes) h)) ∙ put.none in
            ap₂ first_of (ap (checked longer bytes) (at_hash (hash_of bytes) true h) ∙ here false other) (put.by_text bytes)
            ∙ ap (λ o. first_of (checked texts bytes o) (by_text before bytes)) (sym gone)
            ∙ finds.found bytes
            ∙ sym (pushed bytes ∙ ap (λ b. cond b (Some (length texts)) (first_place bytes texts)) other)
        by_test false other false h =
            ap₂ first_of (ap (checked longer bytes) (at_hash (hash_of bytes) false h) ∙ old_checked bytes) (put.by_text bytes)
            ∙ finds.found bytes
            ∙ sym (pushed bytes ∙ ap (λ b. cond b (Some (length texts)) (first_place bytes texts)) other)

    pub hashed : Finds after longer
    hashed = record {
      found = hashed_found;
      within = λ hash at e. by_test hash at e (nat_eq (hash_of key) hash) refl;
      are_first = λ bytes at e. stays_first bytes at (finds.are_first bytes at (sym (put.by_text bytes) ∙ e));
    }
      where
        by_test : (hash at : ℕ) → get nat_cmp after.by_hash hash ≡ Some at → (b : Bool) → nat_eq (hash_of key) hash ≡ b → at < length longer
        by_test hash at e true h =
            let is : Some (length texts) ≡ Some at = sym (at_hash hash true h) ∙ e in
            let at_is : length texts ≡ at = cc in
            omega (arith, at_is, longer_by_one)
        by_test hash at e false h = let lt = finds.within hash at (sym (at_hash hash false h) ∙ e) in omega (arith, lt, longer_by_one)

  -- under its bytes
  module _ (put : IsKept key (length texts) before after) where
    at_text : (bytes : List ℕ) (b : Bool) → bytes_eq key bytes ≡ b → by_text after bytes ≡ cond b (Some (length texts)) (by_text before bytes)
    at_text bytes b e = put.by_text bytes ∙ ap (λ b. cond b (Some (length texts)) (by_text before bytes)) e

    as_checked : (bytes : List ℕ) → checked longer bytes (by_hash after bytes) ≡ checked texts bytes (by_hash before bytes)
    as_checked bytes = ap (checked longer bytes) (put.by_hash (hash_of bytes)) ∙ old_checked bytes

    kept_found : (bytes : List ℕ) → text_found after longer bytes ≡ first_place bytes longer
    kept_found bytes = by_test (bytes_eq key bytes) refl
      where
        by_test : (b : Bool) → bytes_eq key bytes ≡ b → text_found after longer bytes ≡ first_place bytes longer
        by_test true same =
            let gone : text_found before texts bytes ≡ None = finds.found bytes ∙ ap (λ k. first_place k texts) (sym ((bytes_eq-Decides key bytes).0 same)) ∙ none in
            ap₂ first_of (as_checked bytes ∙ (none_both (checked texts bytes (by_hash before bytes)) (by_text before bytes) gone).0) (at_text bytes true same)
            ∙ sym (pushed bytes ∙ ap (λ b. cond b (Some (length texts)) (first_place bytes texts)) same)
        by_test false other =
            ap₂ first_of (as_checked bytes) (at_text bytes false other)
            ∙ finds.found bytes
            ∙ sym (pushed bytes ∙ ap (λ b. cond b (Some (length texts)) (first_place bytes texts)) other)

    pub kept : Finds after longer
    kept = record {
      found = kept_found;
      within = λ hash at e. let lt = finds.within hash at (sym (put.by_hash hash) ∙ e) in omega (arith, lt, longer_by_one);
      are_first = λ bytes at e. by_test bytes at e (bytes_eq key bytes) refl;
    }
      where
        by_test : (bytes : List ℕ) (at : ℕ) → by_text after bytes ≡ Some at → (b : Bool) → bytes_eq key bytes ≡ b → first_place bytes longer ≡ Some at
        by_test bytes at e true same = pushed bytes ∙ ap (λ b. cond b (Some (length texts)) (first_place bytes texts)) same ∙ sym (at_text bytes true same) ∙ e
        by_test bytes at e false other = stays_first bytes at (finds.are_first bytes at (sym (at_text bytes false other) ∙ e))

  finds_put : IsPut key (length texts) before after → Finds after longer
  finds_put (inl put) = hashed put
  finds_put (inr put) = kept put

pub known_push : (before after : TextPlaces) (texts list : List (List ℕ)) (bytes : List ℕ) (at : ℕ) → IsUtf8 bytes → IsKnown before texts → string_place (chars bytes) texts ≡ None → at ≡ length texts → IsPut bytes at before after → list ≡ texts ++ chars bytes ∷ [] → IsKnown after list
known_push before after texts list bytes at utf8 known none end put is =
    subst (IsKnown after) (sym is)
    (record {
      finds = finds_put before after texts (chars bytes) known.finds (place_of_bytes (chars bytes) texts ∙ none)
          (subst (λ k. IsPut k (length texts) before after) (sym (encodes-chars bytes utf8)) (subst (λ n. IsPut bytes n before after) end put));
      are_strings = record { different = apart-push bytes_eq bytes_eq-Decides (chars bytes) texts none known.are_strings.different };
    })

-- ---- the first texts alone

get_taken : {X : Type 0} (n k : ℕ) (xs : List X) → k < n → slice_get (take n xs) k ≡ slice_get xs k
get_taken zero k xs lt = absurd (omega (arith, lt))
get_taken (suc n) k [] lt = refl
get_taken (suc n) zero (x ∷ xs) lt = refl
get_taken (suc n) (suc k) (x ∷ xs) lt = get_taken n k xs (omega (arith, lt))

below_is : (n : ℕ) (o : Option ℕ) → below n o ≡ option_filter (λ p. ltb p n) o
below_is n None = refl
below_is n (Some at) = refl

below_some : (n at : ℕ) (o : Option ℕ) → below n o ≡ Some at → (o ≡ Some at) × (at < n)
below_some n at None e = cc
below_some n at (Some k) e = by_test (ltb k n) refl e
  where
    by_test : (b : Bool) → ltb k n ≡ b → cond b (Some k) None ≡ Some at → (Some k ≡ Some at) × (at < n)
    by_test true lt f = let is : k ≡ at = cc in (f, subst (λ j. j < n) is (ltb-true k n lt))
    by_test false past f = cc

-- entries by the bytes of their keys
abbrev by_bytes : List (String Global × ℕ) → List (List ℕ × ℕ)
by_bytes es = map (λ e. (string_bytes e.0, e.1)) es

look_bytes : (q : List ℕ) (es : List (String Global × ℕ)) → lookup (λ k. is_eq (slice_cmp nat_cmp q (string_bytes k))) es ≡ lookup (λ b. is_eq (slice_cmp nat_cmp q b)) (by_bytes es)
look_bytes q [] = refl
look_bytes q (e ∷ es) = ap (λ o. cond (is_eq (slice_cmp nat_cmp q (string_bytes e.0))) (Some e.1) o) (look_bytes q es)

filter_bytes : (n : ℕ) (es : List (String Global × ℕ)) → by_bytes (filter (λ e. ltb e.1 n) es) ≡ filter (λ e. ltb e.1 n) (by_bytes es)
filter_bytes n [] = refl
filter_bytes n (e ∷ es) = by_test (ltb e.1 n) (filter_bytes n es)
  where
    by_test : (b : Bool) → by_bytes (filter (λ e. ltb e.1 n) es) ≡ filter (λ e. ltb e.1 n) (by_bytes es)
        → by_bytes (cond b (e ∷ filter (λ e. ltb e.1 n) es) (filter (λ e. ltb e.1 n) es)) ≡ cond b ((string_bytes e.0, e.1) ∷ filter (λ e. ltb e.1 n) (by_bytes es)) (filter (λ e. ltb e.1 n) (by_bytes es))
    by_test true rest = ap (λ kept. (string_bytes e.0, e.1) ∷ kept) rest
    by_test false rest = rest

above : (x : String Global) (es : List (String Global × ℕ)) → AllByRecursion (λ k. string_cmp x k ≡ Less) (keys_of es) → AllByRecursion (λ b. slice_cmp nat_cmp (string_bytes x) b ≡ Less) (keys_of (by_bytes es))
above x [] a = tt
above x (e ∷ es) a = (a.0, above x es a.1)

sorted_bytes : (es : List (String Global × ℕ)) → IsStrictlySortedBy string_cmp (keys_of es) → IsStrictlySortedBy (slice_cmp nat_cmp) (keys_of (by_bytes es))
unfolding IsStrictlySortedBy
sorted_bytes [] s = tt
sorted_bytes (e ∷ es) s = (above e.0 es s.0, sorted_bytes es s.1)

-- what is left of a map from texts where only small values stay
pub left_by_text : (before after : BTreeMap (String Global) ℕ) (n : ℕ) → IsOrdered string_cmp before → after.entries ≡ filter (λ e. ltb e.1 n) before.entries → (q : List ℕ) → get_by_text after q ≡ below n (get_by_text before q)
left_by_text before after n ordered left q =
    ap (lookup _) left
    ∙ look_bytes q (filter (λ e. ltb e.1 n) before.entries)
    ∙ ap (lookup (λ b. is_eq (slice_cmp nat_cmp q b))) (filter_bytes n before.entries)
    ∙ lookup-filter-values (eq_by_cmp_equiv nat_list_cmp_total) (λ p. ltb p n) q (by_bytes before.entries)
    (IsDistinct-from_sorted (slice_cmp nat_cmp) (keys_of (by_bytes before.entries)) (sorted_bytes before.entries ordered))
    ∙ ap (option_filter (λ p. ltb p n)) (sym (look_bytes q before.entries))
    ∙ sym (below_is n (get_by_text before q))

-- the same of a map from numbers
pub left_by_hash : (before after : BTreeMap ℕ ℕ) (n : ℕ) → IsOrdered nat_cmp before → after.entries ≡ filter (λ e. ltb e.1 n) before.entries → (q : ℕ) → get nat_cmp after q ≡ below n (get nat_cmp before q)
left_by_hash before after n ordered left q =
    ap (lookup _) left
    ∙ lookup-filter-values (eq_by_cmp_equiv nat_cmp_total) (λ p. ltb p n) q before.entries (IsDistinct-from_sorted nat_cmp (keys before) ordered)
    ∙ sym (below_is n (get nat_cmp before q))

module _ (n : ℕ) (before after : TextPlaces) (texts : List (List ℕ)) (finds : Finds before texts) (left : KeepsFirst n before after) where
  -- what is found among fewer texts, by what was found by the hash and by the bytes
  found_left : (bytes : List ℕ) (h t : Option ℕ) → ((at : ℕ) → t ≡ Some at → first_place bytes texts ≡ Some at) → first_of (checked texts bytes h) t ≡ first_place bytes texts
      → first_of (checked (take n texts) bytes (below n h)) (below n t) ≡ below n (first_place bytes texts)
  found_left bytes None t is_first e = ap (below n) e
  found_left bytes (Some at) t is_first e = by_test (ltb at n) refl (has_bytes bytes (slice_get texts at)) refl e
    where
      by_test : (b : Bool) → ltb at n ≡ b → (s : Bool) → has_bytes bytes (slice_get texts at) ≡ s → first_of (cond s (Some at) None) t ≡ first_place bytes texts
          → first_of (checked (take n texts) bytes (cond b (Some at) None)) (below n t) ≡ below n (first_place bytes texts)
      by_test true lt true same f =
          ap (λ o. first_of (cond (has_bytes bytes o) (Some at) None) (below n t)) (get_taken n at texts (ltb-true at n lt))
          ∙ ap (λ s. first_of (cond s (Some at) None) (below n t)) same
          ∙ sym (ap (λ b. cond b (Some at) None) lt) ∙ ap (below n) f
      by_test true lt false other f =
          ap (λ o. first_of (cond (has_bytes bytes o) (Some at) None) (below n t)) (get_taken n at texts (ltb-true at n lt))
          ∙ ap (λ s. first_of (cond s (Some at) None) (below n t)) other ∙ ap (below n) f
      by_test false past true same f = of_text t refl
        where
          of_text : (o : Option ℕ) → t ≡ o → below n t ≡ below n (first_place bytes texts)
          of_text None none = ap (below n) none ∙ sym (ap (λ b. cond b (Some at) None) past) ∙ ap (below n) f
          of_text (Some k) some = ap (below n) (some ∙ sym (is_first k some))
      by_test false past false other f = ap (below n) f

  left_found : (bytes : List ℕ) → text_found after (take n texts) bytes ≡ first_place bytes (take n texts)
  left_found bytes =
      ap₂ first_of (ap (checked (take n texts) bytes) (left.by_hash (hash_of bytes))) (left.by_text bytes)
      ∙ found_left bytes (get nat_cmp before.by_hash (hash_of bytes)) (get_by_text before.by_text bytes) (finds.are_first bytes) (finds.found bytes)
      ∙ below_is n (first_place bytes texts) ∙ sym (key-take encode_utf8_all bytes n texts)

  pub finds_left : Finds after (take n texts)
  finds_left = record {
    found = left_found;
    within = λ hash at e.
        let was = below_some n at (get nat_cmp before.by_hash hash) (sym (left.by_hash hash) ∙ e) in
        let lt = finds.within hash at was.0 in
        let less = was.1 in
        subst (λ k. at < k) (sym (length-take n texts)) (omega (arith, lt, less));
    are_first = λ bytes at e.
        let was = below_some n at (get_by_text before.by_text bytes) (sym (left.by_text bytes) ∙ e) in
        key-take encode_utf8_all bytes n texts ∙ sym (below_is n (first_place bytes texts))
        ∙ ap (below n) (finds.are_first bytes at was.0)
        ∙ ap (λ b. cond b (Some at) None) (lt-ltb at n was.1);
  }

pub known_take : (before after : TextPlaces) (texts list : List (List ℕ)) (n : ℕ) → IsKnown before texts → KeepsFirst n before after → list ≡ take n texts → IsKnown after list
known_take before after texts list n known left taken =
    subst (IsKnown after) (sym taken)
    (record { finds = finds_left n before after texts known.finds left; are_strings = record { different = apart-take bytes_eq n texts known.are_strings.different } })
