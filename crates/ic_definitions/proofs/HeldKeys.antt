-- The look-up by pairs of a folded name and a scope, read by the keys of definitions.
use Rattle.std.proofs.Common.{◌≡◌, ℕ, List, [], ◌∷◌, Bool, true, false, cond, ◌&&◌, not, Option, Some, None, option_map, refl, sym, ap, ap₂, ◌∙◌, bytes_eq, encode_utf8_all, nat_eq, string_bytes}
use Rattle.std.specs.Bool.{one_answer}
use Rattle.std.specs.BTreeMap.{IsOrdered, Updates, get, get_by, is_at}
use Rattle.std.specs.Cmp.{IsEquivalence, IsTotalOrder, eq_by_cmp_equiv, nat_cmp_total, on_total, then_total, unsigned_ties}
use Rattle.std.specs.Cmp.Lexicographic.{options_total, slice_cmp}
use Rattle.std.specs.List.{IsDistinct, filter}
use Rattle.std.specs.Map.{AreApart, IsKeyTest, KeepsOthers, keys_of, lookup}
use Rattle.std.specs.Option.{option_cmp, option_eq}
use Rattle.std.specs.Ordering.{eq_by_cmp, is_eq, nat_cmp, ordering_then}
use Rattle.std.specs.String.{string_cmp, string_cmp_total, string_eq}
use Rattle.std.specs.declared.cmp.Ordering.{Ordering}
use Rattle.std.proofs.lemmas.Bool.{and_parts, and_from}
use Rattle.std.proofs.lemmas.Map.Entries.{lookup-filter-values, option_filter}
use Rattle.std.proofs.lemmas.Map.Keys.{IsDistinct-tail, IsDistinct-from_sorted}
use Rattle.std.proofs.lemmas.Map.Text.{is_eq-slice_cmp}
use Rattle.std.proofs.lemmas.Slice.Eq.{bytes_eq-Decides}
use Rattle.std.proofs.lemmas.Str.{encodes_same}
use Rattle.ic_laws.proofs.binding.SceneLemmas.{same_scope_self}
use Rattle.ic_laws.proofs.keeping.NameChanges.{same_scope_from}
use Rattle.ic_laws.specs.Scene.{same_key, same_scope}
use Rattle.ic_laws.specs.declared.tree.NameKey.{NameKey}
use Rattle.ic_pool.proofs.KeyLemmas.{clash}
use Rattle.ic_definitions.specs.Named.{HeldKey, IsHeldKey, Places, is_held_key, key_cmp, place_at}
use Rattle.ic_laws.proofs.core.Defined.{scope_symm as scope-flip}
use Rattle.ic_laws.proofs.General.{both_equal, bytes_eq-flip}

-- ---- the order of the keys

abbrev pub held_cmp : HeldKey → HeldKey → Ordering
held_cmp x y = ordering_then (string_cmp x.0 y.0) (option_cmp nat_cmp x.1 y.1)

pub held_total : IsTotalOrder held_cmp
held_total = then_total (on_total (λ (k : HeldKey). k.0) string_cmp_total) (on_total (λ (k : HeldKey). k.1) (options_total nat_cmp_total))

equal_numbers : (a b : ℕ) → is_eq (nat_cmp a b) ≡ same_scope (Some a) (Some b)
equal_numbers a b = sym (unsigned_ties a b)

equal_scopes : (a b : Option ℕ) → is_eq (option_cmp nat_cmp a b) ≡ same_scope a b
equal_scopes None None = refl
equal_scopes None (Some b) = refl
equal_scopes (Some a) None = refl
equal_scopes (Some a) (Some b) = equal_numbers a b

-- bytes and a scope are at a key exactly where both are equal
at_key : (bytes : List ℕ) (scope : Option ℕ) (held : HeldKey) → is_at (key_cmp bytes scope) held ≡ (bytes_eq bytes (string_bytes held.0) && same_scope scope held.1)
at_key bytes scope held =
    both_equal (slice_cmp nat_cmp bytes (string_bytes held.0)) (option_cmp nat_cmp scope held.1)
    ∙ ap₂ ◌&&◌ (is_eq-slice_cmp bytes (string_bytes held.0)) (equal_scopes scope held.1)

pub key_is_at : (q : NameKey) (held : HeldKey) → is_at (key_cmp (encode_utf8_all q.name) q.scope) held ≡ is_held_key q held
key_is_at q held = at_key (encode_utf8_all q.name) q.scope held ∙ ap₂ ◌&&◌ (bytes_eq-flip (encode_utf8_all q.name) (string_bytes held.0)) (scope-flip q.scope held.1)

-- keys that are equal have equal parts
pub same_parts : (x y : HeldKey) → eq_by_cmp held_cmp x y ≡ true → (string_bytes x.0 ≡ string_bytes y.0) × (x.1 ≡ y.1)
same_parts x y e =
    let parts = and_parts (bytes_eq (string_bytes x.0) (string_bytes y.0)) (same_scope x.1 y.1) (sym (at_key (string_bytes x.0) x.1 y) ∙ e) in
    ((bytes_eq-Decides (string_bytes x.0) (string_bytes y.0)).0 parts.0, same_scope_from x.1 y.1 parts.1)

same_options : (a b : Option ℕ) → option_eq nat_eq a b ≡ same_scope a b
same_options None None = refl
same_options None (Some b) = refl
same_options (Some a) None = refl
same_options (Some a) (Some b) = refl

-- whether two keys are equal, as the code tests it
pub tested : (x y : HeldKey) (differ b : Bool) → differ ≡ not (string_eq x.0 y.0 && option_eq nat_eq x.1 y.1) → differ ≡ not b → (bytes_eq (string_bytes x.0) (string_bytes y.0) && same_scope x.1 y.1) ≡ b
tested x y differ b is e = ap (λ s. string_eq x.0 y.0 && s) (sym (same_options x.1 y.1)) ∙ same_not (string_eq x.0 y.0 && option_eq nat_eq x.1 y.1) b (sym is ∙ e)
  where
    same_not : (a b : Bool) → not a ≡ not b → a ≡ b
    same_not true true e = refl
    same_not true false e = cc
    same_not false true e = cc
    same_not false false e = refl

-- ---- a test for a key that needn't be one of the map's type

module _ {K X : Type 0} {eq : K → K → Bool} (laws : IsEquivalence eq) (test : K → Bool) (one : IsKeyTest eq test) where
  by_key : (k : K) → test k ≡ true → (es : List (K × X)) → lookup test es ≡ lookup (eq k) es
  by_key k t [] = refl
  by_key k t (e ∷ es) = ap₂ (λ b o. cond b (Some e.1) o) (one k e.0 t) (by_key k t es)

  -- of entries of a map that are left by their values
  pub left_by_values : (p : X → Bool) (es : List (K × X)) → IsDistinct eq (keys_of es) → lookup test (filter (λ e. p e.1) es) ≡ option_filter p (lookup test es)
  left_by_values p [] d = refl
  left_by_values p (e ∷ es) d = step (test e.0) refl (left_by_values p es (IsDistinct-tail eq e.0 (keys_of es) d))
    where
      skipped : (b : Bool) → test e.0 ≡ false → lookup test (cond b (e ∷ filter (λ x. p x.1) es) (filter (λ x. p x.1) es)) ≡ lookup test (filter (λ x. p x.1) es)
      skipped true f = ap (λ t. cond t (Some e.1) (lookup test (filter (λ x. p x.1) es))) f
      skipped false f = refl

      step : (b : Bool) → test e.0 ≡ b → lookup test (filter (λ x. p x.1) es) ≡ option_filter p (lookup test es) → lookup test (filter (λ x. p x.1) (e ∷ es)) ≡ option_filter p (lookup test (e ∷ es))
      step true t rest = by_key e.0 t (filter (λ x. p x.1) (e ∷ es)) ∙ lookup-filter-values laws p e.0 (e ∷ es) d ∙ ap (option_filter p) (sym (by_key e.0 t (e ∷ es)))
      step false f rest = skipped (p e.1) f ∙ rest ∙ ap (λ t. option_filter p (cond t (Some e.1) (lookup test es))) (sym f)

-- the test of bytes and a scope is one for a key
key_test : (bytes : List ℕ) (scope : Option ℕ) → IsKeyTest (eq_by_cmp held_cmp) (is_at (key_cmp bytes scope))
key_test bytes scope x y t =
    let parts = and_parts (bytes_eq bytes (string_bytes x.0)) (same_scope scope x.1) (sym (at_key bytes scope x) ∙ t) in
    ap₂ (λ bs s. is_at (key_cmp bs s) y) ((bytes_eq-Decides bytes (string_bytes x.0)).0 parts.0) (same_scope_from scope x.1 parts.1)

-- ---- what the look-up has

-- at a key as it has it
pub at_held : (places : Places) (key : NameKey) (held : HeldKey) → IsHeldKey key held → get held_cmp places held ≡ place_at places key
at_held places key held is = ap₂ (λ bs s. get_by (key_cmp bs s) places) is.0 is.1

pub same_held : (key q : NameKey) (held : HeldKey) → IsHeldKey key held → is_held_key q held ≡ same_key key q
same_held key q held is =
    ap₂ (λ bs s. bytes_eq bs (encode_utf8_all q.name) && same_scope s q.scope) is.0 is.1
    ∙ ap (λ b. b && same_scope key.scope q.scope)
    (one_answer {P = key.name ≡ q.name} _ _
    ((λ e. encodes_same key.name q.name ((bytes_eq-Decides (encode_utf8_all key.name) (encode_utf8_all q.name)).0 e)), (λ e. (bytes_eq-Decides (encode_utf8_all key.name) (encode_utf8_all q.name)).1 (ap encode_utf8_all e)))
    (bytes_eq-Decides key.name q.name))

others : {K X : Type 0} (eq : K → K → Bool) (test other : K → Bool) (old new : List (K × X)) → KeepsOthers eq test old new → IsKeyTest eq other → AreApart test other → lookup other new ≡ lookup other old
unfolding KeepsOthers
others eq test other old new h = h other

held_as : (q : NameKey) (held : HeldKey) → is_held_key q held ≡ true → IsHeldKey q held
held_as q held t =
    let parts = and_parts (bytes_eq (string_bytes held.0) (encode_utf8_all q.name)) (same_scope held.1 q.scope) t in
    ((bytes_eq-Decides (string_bytes held.0) (encode_utf8_all q.name)).0 parts.0, same_scope_from held.1 q.scope parts.1)

-- after a change at a key
pub written : (before after : Places) (held : HeldKey) (place : Option ℕ) → Updates held_cmp before after held place → (q : NameKey) → place_at after q ≡ cond (is_held_key q held) place (place_at before q)
written before after held place u q = step (is_held_key q held) refl
  where
    apart : is_held_key q held ≡ false → AreApart (is_at (held_cmp held)) (is_at (key_cmp (encode_utf8_all q.name) q.scope))
    apart f k t =
        let parts = same_parts held k t in
        key_is_at q k ∙ ap₂ (λ bs s. bytes_eq bs (encode_utf8_all q.name) && same_scope s q.scope) (sym parts.0) (sym parts.1) ∙ f

    step : (b : Bool) → is_held_key q held ≡ b → place_at after q ≡ cond b place (place_at before q)
    step true t = sym (at_held after q held (held_as q held t)) ∙ u.1
    step false f = others (eq_by_cmp held_cmp) (is_at (held_cmp held)) (is_at (key_cmp (encode_utf8_all q.name) q.scope)) before.entries after.entries u.3 (key_test (encode_utf8_all q.name) q.scope) (apart f)

-- where an index is put over another
pub put_over : (before after : Places) (held : HeldKey) (had index : ℕ) → Some had ≡ get held_cmp before held → Updates held_cmp before after held (Some index)
    → (q : NameKey) → place_at after q ≡ cond (is_held_key q held) (option_map (λ old. index) (place_at before q)) (place_at before q)
put_over before after held had index found u q =
    written before after held (Some index) u q ∙ step (is_held_key q held) (λ t. sym (at_held before q held (held_as q held t)) ∙ sym found)
  where
    step : (b : Bool) → (b ≡ true → place_at before q ≡ Some had)
        → cond b (Some index) (place_at before q) ≡ cond b (option_map (λ old. index) (place_at before q)) (place_at before q)
    step true h = sym (ap (option_map (λ old. index)) (h refl))
    step false h = refl

pub updated : (before after : Places) (held : HeldKey) (key : NameKey) (place : Option ℕ) → Updates held_cmp before after held place → IsHeldKey key held
    → (q : NameKey) → place_at after q ≡ cond (same_key key q) place (place_at before q)
updated before after held key place u is q = written before after held place u q ∙ ap (λ b. cond b place (place_at before q)) (same_held key q held is)

-- after all but some values were taken out
pub taken_by_values : (before after : Places) (p : ℕ → Bool) → IsOrdered held_cmp before → after.entries ≡ filter (λ e. p e.1) before.entries → (q : NameKey) → place_at after q ≡ option_filter p (place_at before q)
taken_by_values before after p ordered left q =
    ap (lookup (is_at (key_cmp (encode_utf8_all q.name) q.scope))) left
    ∙ left_by_values (eq_by_cmp_equiv held_total) (is_at (key_cmp (encode_utf8_all q.name) q.scope)) (key_test (encode_utf8_all q.name) q.scope) p before.entries (IsDistinct-from_sorted held_cmp (keys_of before.entries) ordered)

-- ---- a key in the place of another

module _ (old new : HeldKey) (index : ℕ) where
  -- what is had at a key then
  abbrev pub replaced : NameKey → Option ℕ → Option ℕ
  replaced key before = cond (is_held_key key new) (Some index) (cond (is_held_key key old) None before)

  same_of_parts : (string_bytes old.0 ≡ string_bytes new.0) → old.1 ≡ new.1 → (key : NameKey) → is_held_key key old ≡ is_held_key key new
  same_of_parts e f key = ap₂ (λ bs s. bytes_eq bs (encode_utf8_all key.name) && same_scope s key.scope) e f

  -- the new one is put in, and the old one is taken away where it is another
  pub key_replaced : (before between after : Places) → (bytes_eq (string_bytes old.0) (string_bytes new.0) && same_scope old.1 new.1) ≡ false → Updates held_cmp before between new (Some index) → Updates held_cmp between after old None
      → (key : NameKey) → place_at after key ≡ replaced key (place_at before key)
  key_replaced before between after other put gone key =
      written between after old None gone key
      ∙ ap (cond (is_held_key key old) None) (written before between new (Some index) put key)
      ∙ step (is_held_key key old) (is_held_key key new) (place_at before key) never
    where
      never : is_held_key key old ≡ true → is_held_key key new ≡ true → ⊥
      never s t =
          let a = and_parts (bytes_eq (string_bytes old.0) (encode_utf8_all key.name)) (same_scope old.1 key.scope) s in
          let b = and_parts (bytes_eq (string_bytes new.0) (encode_utf8_all key.name)) (same_scope new.1 key.scope) t in
          let names = (bytes_eq-Decides (string_bytes old.0) (string_bytes new.0)).1 ((bytes_eq-Decides (string_bytes old.0) (encode_utf8_all key.name)).0 a.0 ∙ sym ((bytes_eq-Decides (string_bytes new.0) (encode_utf8_all key.name)).0 b.0)) in
          let scopes = ap (same_scope old.1) (same_scope_from new.1 key.scope b.1 ∙ sym (same_scope_from old.1 key.scope a.1)) ∙ same_scope_self old.1 in
          clash (bytes_eq (string_bytes old.0) (string_bytes new.0) && same_scope old.1 new.1) (and_from (bytes_eq (string_bytes old.0) (string_bytes new.0)) (same_scope old.1 new.1) names scopes) other

      step : (a b : Bool) (place : Option ℕ) → (a ≡ true → b ≡ true → ⊥) → cond a None (cond b (Some index) place) ≡ cond b (Some index) (cond a None place)
      step true true place h = absurd (h refl refl)
      step true false place h = refl
      step false b place h = refl

  -- which is itself where they are equal
  pub key_kept : (before after : Places) → (bytes_eq (string_bytes old.0) (string_bytes new.0) && same_scope old.1 new.1) ≡ true → Updates held_cmp before after new (Some index)
      → (key : NameKey) → place_at after key ≡ replaced key (place_at before key)
  key_kept before after same put key =
      let parts = and_parts (bytes_eq (string_bytes old.0) (string_bytes new.0)) (same_scope old.1 new.1) same in
      written before after new (Some index) put key
      ∙ step (is_held_key key new) (place_at before key)
      ∙ ap (λ b. cond (is_held_key key new) (Some index) (cond b None (place_at before key))) (sym (same_of_parts ((bytes_eq-Decides (string_bytes old.0) (string_bytes new.0)).0 parts.0) (same_scope_from old.1 new.1 parts.1) key))
    where
      step : (b : Bool) (place : Option ℕ) → cond b (Some index) place ≡ cond b (Some index) (cond b None place)
      step true place = refl
      step false place = refl
