-- What the definitions keep beside them stays true when one is put in the place of another.
use Rattle.std.proofs.Common.{◌≡◌, ℕ, zero, suc, ◌<◌, List, [], ◌∷◌, Bool, true, false, cond, Option, Some, None, option_map, length, get_or, slice_set, refl, sym, ap, ap₂, subst, ◌∙◌, remove, arith}
use Rattle.std.specs.List.{AllByRecursion, IsDistinct, list_any}
use Rattle.std.proofs.lemmas.Bool.{or_parts}
use Rattle.std.proofs.lemmas.Map.Keys.{IsDistinct-head, IsDistinct-tail}
use Rattle.ic_laws.proofs.core.Defined.{same_key_equiv}
use Rattle.ic_laws.proofs.core.Lists.{all_updated, distinct_replaced, updated_seen}
use Rattle.ic_laws.proofs.keeping.NameChanges.{same_key_from}
use Rattle.ic_laws.specs.CoreBook.{Definition}
use Rattle.ic_laws.specs.CoreStep.{updated_at}
use Rattle.ic_laws.specs.Greatest.{greatest}
use Rattle.ic_laws.specs.Scene.{same_key}
use Rattle.ic_laws.specs.declared.tree.NameKey.{NameKey}
use Rattle.ic_pool.proofs.KeyLemmas.{clash}
use Rattle.ic_definitions.specs.Bodies.{HasFoundAll}
use Rattle.ic_definitions.specs.Named.{AreNamed, FindsNames, HeldKey, IsHeldKey, Places, index_with_key, key_in, place_at, scopes_of}
use Rattle.ic_definitions.proofs.HeldKeys.{replaced, same_held}
use Rattle.ic_definitions.proofs.NamedLemmas.{finds_same, keys, no_place, one_of}

-- ---- the places of keys

place_replaced : (ds : List Definition) (index : ℕ) (d new : Definition) → index < length ds → d ≡ get_or ds index d → IsDistinct same_key (keys ds) → list_any (same_key (key_in new)) (remove (keys ds) index) ≡ false
    → (q : NameKey) → index_with_key q (updated_at (λ x. new) index ds) ≡ cond (same_key (key_in new) q) (Some index) (cond (same_key (key_in d) q) None (index_with_key q ds))
place_replaced [] index d new lt read differ apart q = absurd (omega arith)
place_replaced (x ∷ ds) zero d new lt read differ apart q =
    ap (cond (same_key (key_in new) q) (Some 0))
    (subst (λ y. option_map suc (index_with_key q ds) ≡ cond (same_key (key_in y) q) None (index_with_key q (x ∷ ds))) (sym read)
    (step (same_key (key_in x) q) (λ t. ap (λ k. index_with_key k ds) (sym (same_key_from (key_in x) q t)) ∙ no_place (key_in x) ds (IsDistinct-head same_key (key_in x) (keys ds) differ))))
  where
    step : (b : Bool) → (b ≡ true → index_with_key q ds ≡ None) → option_map suc (index_with_key q ds) ≡ cond b None (cond b (Some 0) (option_map suc (index_with_key q ds)))
    step true none = ap (option_map suc) (none refl)
    step false none = refl
place_replaced (x ∷ ds) (suc index) d new lt read differ apart q =
    let others = or_parts (same_key (key_in new) (key_in x)) (list_any (same_key (key_in new)) (remove (keys ds) index)) apart in
    let from_old : same_key (key_in x) (key_in d) ≡ false = one_of (λ k. same_key (key_in x) k ≡ false) ds index d (omega arith) read (IsDistinct-head same_key (key_in x) (keys ds) differ) in
    let from_new : same_key (key_in x) (key_in new) ≡ false = same_key_equiv.symm (key_in x) (key_in new) ∙ others.0 in
    ap (λ place. cond (same_key (key_in x) q) (Some 0) (option_map suc place)) (place_replaced ds index d new (omega arith) read (IsDistinct-tail same_key (key_in x) (keys ds) differ) others.1 q)
    ∙ step (same_key (key_in x) q) (same_key (key_in new) q) (same_key (key_in d) q) (index_with_key q ds)
    (λ t u. clash (same_key (key_in x) (key_in new)) (ap (same_key (key_in x)) (same_key_from (key_in new) q u) ∙ t) from_new)
    (λ t u. clash (same_key (key_in x) (key_in d)) (ap (same_key (key_in x)) (same_key_from (key_in d) q u) ∙ t) from_old)
  where
    step : (b n c : Bool) (place : Option ℕ) → (b ≡ true → n ≡ true → ⊥) → (b ≡ true → c ≡ true → ⊥)
        → cond b (Some 0) (option_map suc (cond n (Some index) (cond c None place))) ≡ cond n (Some (suc index)) (cond c None (cond b (Some 0) (option_map suc place)))
    step true true c place h k = absurd (h refl refl)
    step true false true place h k = absurd (k refl refl)
    step true false false place h k = refl
    step false true c place h k = refl
    step false false true place h k = refl
    step false false false place h k = refl

-- one that is written at an index
pub replaced_at : (ds : List Definition) (index : ℕ) (new : Definition) → slice_set ds index new ≡ updated_at (λ x. new) index ds
replaced_at [] index new = refl
replaced_at (x ∷ ds) zero new = refl
replaced_at (x ∷ ds) (suc index) new = ap (λ rest. x ∷ rest) (replaced_at ds index new)

pub keys_updated : (new : Definition) (index : ℕ) (ds : List Definition) → keys (updated_at (λ x. new) index ds) ≡ updated_at (λ k. key_in new) index (keys ds)
keys_updated new index ds = updated_seen key_in (λ x. new) (λ k. key_in new) (λ x. refl) index ds

pub keys_replaced : (new : Definition) (index : ℕ) (ds others list : List Definition) → keys others ≡ keys ds → list ≡ updated_at (λ x. new) index others → keys list ≡ updated_at (λ k. key_in new) index (keys ds)
keys_replaced new index ds others list same is = ap keys is ∙ keys_updated new index others ∙ ap (updated_at (λ k. key_in new) index) same

-- among others, which may have got other bodies
pub finds_replaced : (before after : Places) (last index : ℕ) (may : Bool) (ds others list : List Definition) (d new : Definition) (old_held new_held : HeldKey) → AreNamed last may ds → FindsNames before ds → keys others ≡ keys ds
    → index < length ds → d ≡ get_or ds index d → IsHeldKey (key_in d) old_held → IsHeldKey (key_in new) new_held
    → ((key : NameKey) → place_at after key ≡ replaced old_held new_held index key (place_at before key))
    → list_any (same_key (key_in new)) (remove (keys ds) index) ≡ false → list ≡ updated_at (λ x. new) index others → FindsNames after list
finds_replaced before after last index may ds others list d new old_held new_held named finds same lt read old_is new_is put apart is =
    finds_same after (updated_at (λ x. new) index ds) list
    (λ q.
    put q
    ∙ ap₂ (λ n place. cond n (Some index) place) (same_held (key_in new) q new_held new_is)
    (ap₂ (λ o place. cond o None place) (same_held (key_in d) q old_held old_is) (finds q))
    ∙ sym (place_replaced ds index d new lt read named.differ apart q))
    (keys_replaced new index ds others list same is ∙ sym (keys_updated new index ds))

pub named_replaced : (last now_last index : ℕ) (may may_now : Bool) (ds others list : List Definition) (new : Definition) → AreNamed last may ds → keys others ≡ keys ds → list_any (same_key (key_in new)) (remove (keys ds) index) ≡ false
    → now_last ≡ greatest (scopes_of list) → (may_now ≡ false → AllByRecursion HasFoundAll others × HasFoundAll new) → list ≡ updated_at (λ x. new) index others → AreNamed now_last may_now list
named_replaced last now_last index may may_now ds others list new named same apart most clean is = record {
  differ = subst (IsDistinct same_key) (sym (keys_replaced new index ds others list same is)) (distinct_replaced same_key_equiv (key_in new) index (keys ds) named.differ apart);
  greatest = most;
  dangles = λ e. let parts = clean e in subst (AllByRecursion HasFoundAll) (sym is) (all_updated HasFoundAll (λ x. new) (λ x h. parts.1) index others parts.0);
}
