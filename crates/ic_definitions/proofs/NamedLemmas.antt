-- What the definitions keep beside them stays true when definitions come and go, and when their bodies change.
use Rattle.std.proofs.Common.{◌≡◌, ℕ, zero, suc, ◌<◌, List, [], ◌∷◌, ◌++◌, map, Bool, true, false, cond, ◌||◌, Option, Some, None, option_map, option_to_list, max, length, get_or, refl, sym, ap, ap₂, subst, ◌∙◌, remove, arith}
use Rattle.std.specs.BTreeMap.{IsEmpty, Updates}
use Rattle.std.specs.List.{AllByRecursion, IsDistinct, list_any}
use Rattle.std.specs.Map.{lookup}
use Rattle.std.proofs.lemmas.Bool.{or_parts}
use Rattle.std.proofs.lemmas.Grind.{flat_map-append}
use Rattle.std.proofs.lemmas.List.{map-append}
use Rattle.std.proofs.lemmas.Map.Keys.{IsDistinct-head, IsDistinct-push, IsDistinct-tail}
use Rattle.ic_laws.proofs.core.Defined.{same_key_equiv}
use Rattle.ic_laws.proofs.core.Lists.{all_pushed, all_removed, distinct_removed, removed_seen}
use Rattle.ic_laws.proofs.keeping.NameChanges.{same_key_from}
use Rattle.ic_laws.specs.CoreBook.{Definition}
use Rattle.ic_laws.specs.CoreStep.{is_named}
use Rattle.ic_laws.specs.Greatest.{greatest}
use Rattle.ic_laws.specs.Scene.{same_key}
use Rattle.ic_laws.specs.declared.tree.NameKey.{NameKey}
use Rattle.ic_pool.proofs.KeyLemmas.{clash}
use Rattle.ic_definitions.specs.Bodies.{HasFoundAll}
use Rattle.ic_definitions.specs.Named.{AreNamed, FindsNames, HeldKey, IsHeldKey, Places, index_with_key, key_in, place_at, raised, scopes_of}
use Rattle.ic_definitions.proofs.FindingLemmas.{has_key}
use Rattle.ic_definitions.proofs.HeldKeys.{held_cmp, updated}

abbrev pub keys : List Definition → List NameKey
keys definitions = map key_in definitions

none_apart : IsDistinct same_key []
unfolding IsDistinct
none_apart = tt

pub named_empty : (ds : List Definition) → ds ≡ [] → AreNamed 0 false ds
named_empty ds none = subst (AreNamed 0 false) (sym none) (record { differ = none_apart; greatest = refl; dangles = λ e. tt })

-- an empty look-up finds no definitions
pub finds_empty : (places : Places) (ds : List Definition) → IsEmpty places → ds ≡ [] → FindsNames places ds
finds_empty places ds empty none = subst (FindsNames places) (sym none) (λ key. ap (lookup _) empty)

-- ---- keys

-- what is found and the scopes go by the keys alone
pub same_place : (xs ys : List Definition) → keys xs ≡ keys ys → (key : NameKey) → index_with_key key xs ≡ index_with_key key ys
same_place [] [] e key = refl
same_place [] (y ∷ ys) e key = cc
same_place (x ∷ xs) [] e key = cc
same_place (x ∷ xs) (y ∷ ys) e key =
    let first : key_in x ≡ key_in y = cc in
    let others : keys xs ≡ keys ys = cc in
    ap₂ (λ k place. cond (same_key k key) (Some 0) (option_map suc place)) first (same_place xs ys others key)

pub same_scopes : (xs ys : List Definition) → keys xs ≡ keys ys → scopes_of xs ≡ scopes_of ys
same_scopes [] [] e = refl
same_scopes [] (y ∷ ys) e = cc
same_scopes (x ∷ xs) [] e = cc
same_scopes (x ∷ xs) (y ∷ ys) e =
    let first : key_in x ≡ key_in y = cc in
    let others : keys xs ≡ keys ys = cc in
    ap₂ (λ (k : NameKey) scopes. option_to_list k.scope ++ scopes) first (same_scopes xs ys others)

-- other bodies
pub named_same : (last : ℕ) (may may_now : Bool) (ds list : List Definition) → AreNamed last may ds → keys list ≡ keys ds → (may_now ≡ false → AllByRecursion HasFoundAll list) → AreNamed last may_now list
named_same last may may_now ds list named same clean = record {
  differ = subst (IsDistinct same_key) (sym same) named.differ;
  greatest = named.greatest ∙ sym (ap greatest (same_scopes list ds same));
  dangles = clean;
}

-- what finds them by their keys goes by the keys alone
pub finds_same : (places : Places) (ds list : List Definition) → FindsNames places ds → keys list ≡ keys ds → FindsNames places list
finds_same places ds list finds same key = finds key ∙ sym (same_place list ds same key)

-- ---- a definition comes

-- no definition has this key
parted : (key : NameKey) (d : Definition) (ds : List Definition) → list_any (has_key key) (d ∷ ds) ≡ false → (has_key key d ≡ false) × (list_any (has_key key) ds ≡ false)
parted key d ds e = or_parts (has_key key d) (list_any (has_key key) ds) e

key_free : (key : NameKey) (ds : List Definition) → list_any (has_key key) ds ≡ false → list_any (same_key key) (keys ds) ≡ false
key_free key [] e = refl
key_free key (d ∷ ds) e =
    let parts = parted key d ds e in ap₂ ◌||◌ (same_key_equiv.symm key (key_in d) ∙ parts.0) (key_free key ds parts.1)

pub free_has_no_place : (key : NameKey) (ds : List Definition) → list_any (has_key key) ds ≡ false → index_with_key key ds ≡ None
free_has_no_place key [] e = refl
free_has_no_place key (d ∷ ds) e =
    let parts = parted key d ds e in ap₂ (λ b place. cond b (Some 0) (option_map suc place)) parts.0 (free_has_no_place key ds parts.1)

place_pushed : (d : Definition) (ds : List Definition) → list_any (has_key (key_in d)) ds ≡ false → (q : NameKey) → index_with_key q (ds ++ d ∷ []) ≡ cond (same_key (key_in d) q) (Some (length ds)) (index_with_key q ds)
place_pushed d [] free q = refl
place_pushed d (x ∷ ds) free q =
    let parts = parted (key_in d) x ds free in
    ap (λ place. cond (same_key (key_in x) q) (Some 0) (option_map suc place)) (place_pushed d ds parts.1 q)
    ∙ step (same_key (key_in x) q) (same_key (key_in d) q) (index_with_key q ds)
    (λ t u. clash (same_key (key_in x) (key_in d)) (ap (same_key (key_in x)) (same_key_from (key_in d) q u) ∙ t) parts.0)
  where
    step : (b c : Bool) (place : Option ℕ) → (b ≡ true → c ≡ true → ⊥) → cond b (Some 0) (option_map suc (cond c (Some (length ds)) place)) ≡ cond c (Some (suc (length ds))) (cond b (Some 0) (option_map suc place))
    step true true place h = absurd (h refl refl)
    step true false place h = refl
    step false true place h = refl
    step false false place h = refl

pub greatest_joined : (xs ys : List ℕ) → greatest (xs ++ ys) ≡ max (greatest xs) (greatest ys)
greatest_joined [] ys = omega arith
greatest_joined (x ∷ xs) ys = let rest = greatest_joined xs ys in omega (arith, rest)

scopes_pushed : (ds : List Definition) (d : Definition) → greatest (scopes_of (ds ++ d ∷ [])) ≡ max (greatest (scopes_of ds)) (greatest (option_to_list d.scope))
scopes_pushed ds d =
    ap greatest (flat_map-append (λ (x : Definition). option_to_list x.scope) ds (d ∷ [])) ∙ greatest_joined (scopes_of ds) (scopes_of (d ∷ [])) ∙ ap (max (greatest (scopes_of ds))) (alone d.scope)
  where
    alone : (scope : Option ℕ) → greatest (option_to_list scope ++ []) ≡ greatest (option_to_list scope)
    alone None = refl
    alone (Some id) = refl

keys_pushed : (ds others list : List Definition) (d : Definition) → keys others ≡ keys ds → list ≡ others ++ d ∷ [] → keys list ≡ keys (ds ++ d ∷ [])
keys_pushed ds others list d same pushed = ap keys pushed ∙ map-append key_in others (d ∷ []) ∙ ap (λ ks. ks ++ key_in d ∷ []) same ∙ sym (map-append key_in ds (d ∷ []))

-- behind others, which may have got other bodies
pub finds_pushed : (before after : Places) (place : ℕ) (ds others list : List Definition) (d : Definition) (held : HeldKey) → FindsNames before ds → keys others ≡ keys ds → list_any (is_named d.name d.scope) ds ≡ false → IsHeldKey (key_in d) held
    → place ≡ length ds → Updates held_cmp before after held (Some place) → list ≡ others ++ d ∷ [] → FindsNames after list
finds_pushed before after place ds others list d held finds same free coded end u pushed =
    finds_same after (ds ++ d ∷ []) list
    (λ q.
    updated before after held (key_in d) (Some place) u coded q
    ∙ ap₂ (λ n o. cond (same_key (key_in d) q) (Some n) o) end (finds q)
    ∙ sym (place_pushed d ds free q))
    (keys_pushed ds others list d same pushed)

pub named_pushed : (last now_last : ℕ) (may may_now : Bool) (ds others list : List Definition) (d : Definition) → AreNamed last may ds → keys others ≡ keys ds → list_any (is_named d.name d.scope) ds ≡ false
    → now_last ≡ max last (greatest (option_to_list d.scope)) → (may_now ≡ false → AllByRecursion HasFoundAll others × HasFoundAll d) → list ≡ others ++ d ∷ [] → AreNamed now_last may_now list
named_pushed last now_last may may_now ds others list d named same free most clean pushed =
    named_same now_last true may_now (ds ++ d ∷ []) list
    (record {
      differ = subst (IsDistinct same_key) (sym (map-append key_in ds (d ∷ []))) (IsDistinct-push same_key_equiv (keys ds) (key_in d) named.differ (key_free (key_in d) ds free));
      greatest = most ∙ ap (λ n. max n (greatest (option_to_list d.scope))) named.greatest ∙ sym (scopes_pushed ds d);
      dangles = λ e. absurd (clash true refl e);
    })
    (keys_pushed ds others list d same pushed) (λ e. let parts = clean e in subst (AllByRecursion HasFoundAll) (sym pushed) (all_pushed HasFoundAll others d parts.0 parts.1))

-- ---- a definition goes

raised_first : (place : Option ℕ) → option_map suc place ≡ option_map (raised 0) place
raised_first None = refl
raised_first (Some n) = ap (λ k. Some k) (more n)
  where
    more : (n : ℕ) → suc n ≡ raised 0 n
    more n = grind arith

pub raised_later : (index : ℕ) (place : Option ℕ) → option_map suc (option_map (raised index) place) ≡ option_map (raised (suc index)) (option_map suc place)
raised_later index None = refl
raised_later index (Some n) = ap (λ k. Some k) (more index n)
  where
    more : (index n : ℕ) → suc (raised index n) ≡ raised (suc index) (suc n)
    more index n = grind arith

pub first_stays : (index : ℕ) → 0 ≡ raised (suc index) 0
first_stays index = grind arith

-- a key that others have apart from it
pub no_place : (key : NameKey) (ds : List Definition) → AllByRecursion (λ k. same_key key k ≡ false) (keys ds) → index_with_key key ds ≡ None
no_place key [] h = refl
no_place key (d ∷ ds) h = ap₂ (λ b place. cond b (Some 0) (option_map suc place)) (same_key_equiv.symm (key_in d) key ∙ h.0) (no_place key ds h.1)

pub one_of : (P : NameKey → Type 0) (ds : List Definition) (index : ℕ) (d : Definition) → index < length ds → d ≡ get_or ds index d → AllByRecursion P (keys ds) → P (key_in d)
one_of P [] index d lt read h = absurd (omega arith)
one_of P (x ∷ ds) zero d lt read h = subst (λ y. P (key_in y)) (sym read) h.0
one_of P (x ∷ ds) (suc index) d lt read h = one_of P ds index d (omega arith) read h.1

-- its key finds nothing then, and later ones stood one place further
place_removed : (ds : List Definition) (index : ℕ) (d : Definition) → index < length ds → d ≡ get_or ds index d → IsDistinct same_key (keys ds)
    → (q : NameKey) → cond (same_key (key_in d) q) None (index_with_key q ds) ≡ option_map (raised index) (index_with_key q (remove ds index))
place_removed [] index d lt read differ q = absurd (omega arith)
place_removed (x ∷ ds) zero d lt read differ q =
    subst (λ y. cond (same_key (key_in y) q) None (index_with_key q (x ∷ ds)) ≡ option_map (raised 0) (index_with_key q ds)) (sym read)
    (step (same_key (key_in x) q) (λ t. ap (λ k. index_with_key k ds) (sym (same_key_from (key_in x) q t)) ∙ no_place (key_in x) ds (IsDistinct-head same_key (key_in x) (keys ds) differ)))
  where
    step : (b : Bool) → (b ≡ true → index_with_key q ds ≡ None)
        → cond b None (cond b (Some 0) (option_map suc (index_with_key q ds))) ≡ option_map (raised 0) (index_with_key q ds)
    step true none = sym (ap (option_map (raised 0)) (none refl))
    step false none = raised_first (index_with_key q ds)
place_removed (x ∷ ds) (suc index) d lt read differ q =
    let apart : same_key (key_in x) (key_in d) ≡ false = one_of (λ k. same_key (key_in x) k ≡ false) ds index d (omega arith) read (IsDistinct-head same_key (key_in x) (keys ds) differ) in
    step (same_key (key_in x) q) (same_key (key_in d) q)
    (λ t u. clash (same_key (key_in x) (key_in d)) (ap (same_key (key_in x)) (same_key_from (key_in d) q u) ∙ t) apart)
    (place_removed ds index d (omega arith) read (IsDistinct-tail same_key (key_in x) (keys ds) differ) q)
  where
    step : (b c : Bool) → (b ≡ true → c ≡ true → ⊥) → cond c None (index_with_key q ds) ≡ option_map (raised index) (index_with_key q (remove ds index))
        → cond c None (cond b (Some 0) (option_map suc (index_with_key q ds)))
        ≡ option_map (raised (suc index)) (cond b (Some 0) (option_map suc (index_with_key q (remove ds index))))
    step true true h e = absurd (h refl refl)
    step true false h e = ap (λ n. Some n) (first_stays index)
    step false true h e = ap (option_map suc) e ∙ raised_later index (index_with_key q (remove ds index))
    step false false h e = ap (option_map suc) e ∙ raised_later index (index_with_key q (remove ds index))

pub keys_removed : (ds others list : List Definition) (index : ℕ) → keys others ≡ keys ds → list ≡ remove others index → keys list ≡ remove (keys ds) index
keys_removed ds others list index same removed = ap keys removed ∙ removed_seen key_in others index ∙ ap (λ ks. remove ks index) same

-- from among others, which may have got other bodies
pub finds_raised : (before after : Places) (last index : ℕ) (may : Bool) (ds others list : List Definition) (d : Definition) (held : HeldKey)
    → AreNamed last may ds → FindsNames before ds → keys others ≡ keys ds
    → index < length ds → d ≡ get_or ds index d → IsHeldKey (key_in d) held → Updates held_cmp before after held None → list ≡ remove others index
    → (q : NameKey) → place_at after q ≡ option_map (raised index) (index_with_key q list)
finds_raised before after last index may ds others list d held named finds same lt read coded u removed q =
    updated before after held (key_in d) None u coded q
    ∙ ap (cond (same_key (key_in d) q) None) (finds q)
    ∙ place_removed ds index d lt read named.differ q
    ∙ ap (option_map (raised index)) (same_place (remove ds index) list (removed_seen key_in ds index ∙ sym (keys_removed ds others list index same removed)) q)

pub differ_removed : (ds others list : List Definition) (index : ℕ) → IsDistinct same_key (keys ds) → keys others ≡ keys ds → list ≡ remove others index
    → IsDistinct same_key (keys list)
differ_removed ds others list index differ same removed =
    subst (IsDistinct same_key) (sym (keys_removed ds others list index same removed)) (distinct_removed same_key_equiv (keys ds) index differ)

pub named_removed : (last now_last index : ℕ) (may may_now : Bool) (ds others list : List Definition) → AreNamed last may ds → keys others ≡ keys ds → now_last ≡ greatest (scopes_of list) → (may_now ≡ false → AllByRecursion HasFoundAll others)
    → list ≡ remove others index → AreNamed now_last may_now list
named_removed last now_last index may may_now ds others list named same most clean removed = record {
  differ = differ_removed ds others list index named.differ same removed;
  greatest = most;
  dangles = λ e. subst (AllByRecursion HasFoundAll) (sym removed) (all_removed HasFoundAll others index (clean e));
}
