-- Variables come into scope and go, and the look-up of their keys keeps up with them.
use Rattle.std.proofs.Common.{◌≡◌, ◌∙◌, ℕ, suc, ◌+◌, ◌-◌, ◌<◌, ◌≤◌, List, [], ◌∷◌, ◌++◌, Bool, true, false, ◌||◌, ◌==◌, Option, Some, None, is_some, option_map, nat_eq, bytes_eq, encode_utf8_all, string_bytes, String, cond, take, length, get_or, refl, sym, ap, ap₂, subst, arith}
use Rattle.std.specs.Bool.{one_answer}
use Rattle.std.specs.BTreeMap.{BTreeMap, UpdatesBy, get_by_text}
use Rattle.std.specs.Cmp.Lexicographic.{slice_cmp}
use Rattle.std.specs.Option.{option_eq}
use Rattle.std.specs.Ordering.{nat_cmp}
use Rattle.std.specs.String.{string_cmp}
use Rattle.std.specs.declared.alloc.Global.{Global}
use Rattle.std.proofs.lemmas.Bool.Decides.{nat_tests}
use Rattle.std.proofs.lemmas.List.{take_all, take_more}
use Rattle.std.proofs.lemmas.Map.Text.{btree_map_updates_text}
use Rattle.std.proofs.lemmas.Slice.Eq.{bytes_eq-Decides}
use Rattle.std.proofs.lemmas.Str.{encodes_same}
use Rattle.ic_laws.specs.Binding.{Binders, is_bound_by}
use Rattle.ic_laws.specs.Name.{agrees, fold}
use Rattle.ic_tree.specs.InScope.{AreFound, but_last, key_of, or_last, place_of}
use Rattle.ic_tables.proofs.WordLemmas.{eqb_itself as same}

-- names agree where their keys are one
same_key : (variable word : List ℕ) → bytes_eq (key_of variable) (key_of word) ≡ agrees variable word
same_key variable word =
    one_answer _ _ (bytes_eq-Decides (key_of variable) (key_of word))
    ((λ e. ap encode_utf8_all ((bytes_eq-Decides (fold variable) (fold word)).0 e)), (λ e. (bytes_eq-Decides (fold variable) (fold word)).1 (encodes_same (fold variable) (fold word) e)))

first_or_later : (b : Bool) (r : Option ℕ) → is_some (cond b (Some 0) (option_map suc r)) ≡ (b || is_some r)
first_or_later true r = refl
first_or_later false None = refl
first_or_later false (Some i) = refl

-- a key has a place where a variable of its name is seen
pub found_bound : (word : List ℕ) (names : Binders) → is_some (place_of (key_of word) names) ≡ is_bound_by names word
found_bound word [] = refl
found_bound word (x ∷ xs) =
    first_or_later (bytes_eq (key_of x) (key_of word)) (place_of (key_of word) xs)
    ∙ ap₂ (λ b c. b || c) (same_key x word) (found_bound word xs)

-- ---- one more variable, or one less

later : (b has : Bool) (place : ℕ) (r : Option ℕ) → cond b (Some 0) (option_map suc (or_last has place r)) ≡ or_last has (suc place) (cond b (Some 0) (option_map suc r))
later true has place r = refl
later false has place (Some i) = refl
later false true place None = refl
later false false place None = refl

place_of-push : (key : List ℕ) (names : Binders) (name : List ℕ) → place_of key (names ++ name ∷ []) ≡ or_last (bytes_eq (key_of name) key) (length names) (place_of key names)
place_of-push key [] name = refl
place_of-push key (x ∷ xs) name =
    ap (λ r. cond (bytes_eq (key_of x) key) (Some 0) (option_map suc r)) (place_of-push key xs name)
    ∙ later (bytes_eq (key_of x) key) (bytes_eq (key_of name) key) (length xs) (place_of key xs)

-- each place is one of the list
abbrev IsBelow : ℕ → Option ℕ → Type 0
IsBelow count r = (i : ℕ) → r ≡ Some i → i < count

later_below : (b : Bool) (count : ℕ) (r : Option ℕ) → IsBelow count r → IsBelow (suc count) (cond b (Some 0) (option_map suc r))
later_below true count r h i e = let z : 0 ≡ i = cc in omega (arith, z)
later_below false count None h i e = absurd (cc)
later_below false count (Some j) h i e = let z : suc j ≡ i = cc in let lt : j < count = h j refl in omega (arith, z, lt)

place_of-below : (key : List ℕ) (names : Binders) → IsBelow (length names) (place_of key names)
place_of-below key [] = λ i e. absurd (cc)
place_of-below key (x ∷ xs) = later_below (bytes_eq (key_of x) key) (length xs) (place_of key xs) (place_of-below key xs)

differs : (m n : ℕ) → m < n → (m == n) ≡ false
differs m n lt = grind (arith, nat_tests)

undone : (has : Bool) (place : ℕ) (r : Option ℕ) → IsBelow place r → but_last has place (or_last has place r) ≡ r
undone true place None h = ap (λ b. cond b None (Some place)) (same place)
undone false place None h = refl
undone true place (Some i) h = ap (λ b. cond b None (Some i)) (differs i place (h i refl))
undone false place (Some i) h = refl

place_of-pop : (key : List ℕ) (names : Binders) (name : List ℕ) → place_of key names ≡ but_last (bytes_eq (key_of name) key) (length names) (place_of key (names ++ name ∷ []))
place_of-pop key names name =
    sym (ap (but_last (bytes_eq (key_of name) key) (length names)) (place_of-push key names name)
    ∙ undone (bytes_eq (key_of name) key) (length names) (place_of key names) (place_of-below key names))

-- ---- the look-up keeps up

abbrev pub Places : Type 0
Places = BTreeMap (String Global) ℕ

once : (has : Bool) (place : ℕ) (r : Option ℕ) → (has ≡ true → is_some r ≡ false) → cond has (Some place) r ≡ or_last has place r
once true place None h = refl
once true place (Some i) h = absurd (let e : true ≡ false = h refl in cc)
once false place None h = refl
once false place (Some i) h = refl

-- a key that wasn't there is put in
pub noted : (before after : Places) (bytes key : List ℕ) (place : ℕ) → UpdatesBy string_cmp (λ k. slice_cmp nat_cmp bytes (string_bytes k)) before after (Some place) → key ≡ bytes → is_some (get_by_text before key) ≡ false
    → (q : List ℕ) → get_by_text after q ≡ or_last (bytes_eq bytes q) place (get_by_text before q)
noted before after bytes key place updates e none q =
    btree_map_updates_text bytes before after (Some place) updates q
    ∙ once (bytes_eq bytes q) place (get_by_text before q)
    (λ same. ap (λ k. is_some (get_by_text before k)) (sym (e ∙ (bytes_eq-Decides bytes q).0 same)) ∙ none)

gone : (has : Bool) (place : ℕ) (r : Option ℕ) → (has ≡ true → r ≡ Some place) → cond has None r ≡ but_last has place r
gone true place r h = sym (ap (but_last true place) (h refl) ∙ ap (λ b. cond b None (Some place)) (same place))
gone false place None h = refl
gone false place (Some i) h = refl

is_found : (r : Option ℕ) (place : ℕ) → true ≡ option_eq nat_eq r (Some place) → r ≡ Some place
is_found None place e = absurd (cc)
is_found (Some i) place e = ap (λ n. Some n) (equal i place e)
  where
    equal : (m n : ℕ) → true ≡ nat_eq m n → m ≡ n
    equal m n e = grind (arith, nat_tests)

-- a key with this place is taken out
pub forgotten : (before after : Places) (key : List ℕ) (place : ℕ) → UpdatesBy string_cmp (λ k. slice_cmp nat_cmp key (string_bytes k)) before after None → (found : Option ℕ) → found ≡ get_by_text before key → true ≡ option_eq nat_eq found (Some place)
    → (q : List ℕ) → get_by_text after q ≡ but_last (bytes_eq key q) place (get_by_text before q)
forgotten before after key place updates found is same_place q =
    btree_map_updates_text key before after None updates q
    ∙ gone (bytes_eq key q) place (get_by_text before q) (λ same. ap (get_by_text before) (sym ((bytes_eq-Decides key q).0 same)) ∙ sym is ∙ is_found found place same_place)

pub AreFound-push : (before after : Places) (names list : Binders) (name key : List ℕ) (place : ℕ) → AreFound before names → ((q : List ℕ) → get_by_text after q ≡ or_last (bytes_eq key q) place (get_by_text before q)) → key ≡ key_of name → place ≡ length names → list ≡ names ++ name ∷ [] → AreFound after list
AreFound-push before after names list name key place found noted e at pushed =
    subst (AreFound after) (sym pushed)
    (record {
      finds = λ q.
          noted q ∙ ap₂ (λ k p. or_last (bytes_eq k q) p (get_by_text before q)) e at
          ∙ ap (or_last (bytes_eq (key_of name) q) (length names)) (found.finds q) ∙ sym (place_of-push q names name);
    })

-- all but the last, and the last
parted : (names : Binders) (name : List ℕ) → 0 < length names → name ≡ get_or names (length names - 1) name → names ≡ take (length names - 1) names ++ name ∷ []
parted names name some last =
    let lt : length names - 1 < length names = omega (arith, some) in
    let whole : length names ≤ length names - 1 + 1 = omega (arith, some) in
    sym (take_all (length names - 1 + 1) names whole) ∙ take_more names (length names - 1) name lt
    ∙ ap (λ x. take (length names - 1) names ++ x ∷ []) (sym last)

AreFound-pop : (before after : Places) (names : Binders) (name key : List ℕ) (place : ℕ) → AreFound before (names ++ name ∷ []) → ((q : List ℕ) → get_by_text after q ≡ but_last (bytes_eq key q) place (get_by_text before q)) → key ≡ key_of name → place ≡ length names → AreFound after names
AreFound-pop before after names name key place found forgotten e at =
    record {
      finds = λ q.
          forgotten q ∙ ap₂ (λ k p. but_last (bytes_eq k q) p (get_by_text before q)) e at
          ∙ ap (but_last (bytes_eq (key_of name) q) (length names)) (found.finds q) ∙ sym (place_of-pop q names name);
    }

pub AreFound-cut : (before after : Places) (names list : Binders) (name key : List ℕ) (place : ℕ) → AreFound before names → 0 < length names → name ≡ get_or names (length names - 1) name
    → ((q : List ℕ) → get_by_text after q ≡ but_last (bytes_eq key q) place (get_by_text before q)) → key ≡ key_of name → place ≡ length list → list ≡ take (length names - 1) names → AreFound after list
AreFound-cut before after names list name key place found some last forgotten e at cut =
    AreFound-pop before after list name key place
    (subst (AreFound before) (parted names name some last ∙ ap (λ xs. xs ++ name ∷ []) (sym cut)) found) forgotten e at
