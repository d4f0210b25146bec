-- The definitions that are copied with a sheet have keys of their own: no two of them one, and none that of another.
use Rattle.std.proofs.Common.{◌≡◌, ℕ, List, [], ◌∷◌, ◌++◌, map, flat_map, Bool, true, false, not, cond, ◌&&◌, Option, Some, None, refl, sym, ap, subst, ◌∙◌}
use Rattle.std.proofs.lemmas.Bool.{and_right, or_parts, and_parts}
use Rattle.std.proofs.lemmas.List.Folds.{list_any-append}
use Rattle.std.proofs.lemmas.Map.Keys.{IsDistinct-cons, IsDistinct-head, IsDistinct-tail}
use Rattle.std.specs.Cmp.{nat_eq_equiv}
use Rattle.std.specs.List.{AllByRecursion, IsDistinct, filter, list_any}
use Rattle.std.specs.Option.{option_to_list}
use Rattle.std.specs.Prelude.{bytes_eq, is_none, nat_eq}
use Rattle.ic_laws.proofs.binding.SceneLemmas.{same_scope_self}
use Rattle.ic_laws.proofs.core.Lists.{none_passes}
use Rattle.ic_laws.proofs.core.Made.{key}
use Rattle.ic_laws.proofs.keeping.NameChanges.{same_scope_from}
use Rattle.ic_laws.specs.CoreBook.{Definition}
use Rattle.ic_laws.specs.Name.{agrees, fold}
use Rattle.ic_laws.specs.Scene.{same_key, same_scope}
use Rattle.ic_laws.specs.declared.tree.NameKey.{NameKey}
use Rattle.ic_machine.specs.subjects.Sheets.{copied_of, local_to, mentions_sheet, shared_about}
use Rattle.ic_machine.proofs.valid.ValidLemmas.{all_of}

-- lists ----

pub all_appended : {X : Type 0} (P : X → Type 0) (xs ys : List X) → AllByRecursion P xs → AllByRecursion P ys → AllByRecursion P (xs ++ ys)
all_appended P [] ys h g = g
all_appended P (x ∷ xs) ys h g = (h.0, all_appended P xs ys h.1 g)

all_each : {X : Type 0} (P : X → Type 0) → ((x : X) → P x) → (xs : List X) → AllByRecursion P xs
all_each P h [] = tt
all_each P h (x ∷ xs) = (h x, all_each P h xs)

module _ {X Y : Type 0} (f : X → Y) (P : Y → Type 0) where
  pub all_in_map : (xs : List X) → AllByRecursion (λ x. P (f x)) xs → AllByRecursion P (map f xs)
  all_in_map [] h = tt
  all_in_map (x ∷ xs) h = (h.0, all_in_map xs h.1)

  all_from_map : (xs : List X) → AllByRecursion P (map f xs) → AllByRecursion (λ x. P (f x)) xs
  all_from_map [] h = tt
  all_from_map (x ∷ xs) h = (h.0, all_from_map xs h.1)

pub all_filtered : {X : Type 0} (p : X → Bool) (P Q : X → Type 0) → ((x : X) → p x ≡ true → P x → Q x) → (xs : List X) → AllByRecursion P xs → AllByRecursion Q (filter p xs)
all_filtered p P Q more [] h = tt
all_filtered p P Q more (x ∷ xs) h = by_test (p x) refl (all_filtered p P Q more xs h.1)
  where
    by_test : (t : Bool) → p x ≡ t → AllByRecursion Q (filter p xs) → AllByRecursion Q (cond t (x ∷ filter p xs) (filter p xs))
    by_test true e rest = (more x e h.0, rest)
    by_test false e rest = rest

distinct_joined : {K : Type 0} (same : K → K → Bool) (xs ys : List K) → IsDistinct same xs → IsDistinct same ys → AllByRecursion (λ y. AllByRecursion (λ x. same x y ≡ false) xs) ys → IsDistinct same (xs ++ ys)
distinct_joined same [] ys d e h = e
distinct_joined same (x ∷ xs) ys d e h =
    IsDistinct-cons same x (xs ++ ys)
    (all_appended (λ y. same x y ≡ false) xs ys (IsDistinct-head same x xs d) (all_of (λ y. AllByRecursion (λ z. same z y ≡ false) (x ∷ xs)) (λ y. same x y ≡ false) (λ y h. h.0) ys h))
    (distinct_joined same xs ys (IsDistinct-tail same x xs d) e (all_of (λ y. AllByRecursion (λ z. same z y ≡ false) (x ∷ xs)) (λ y. AllByRecursion (λ z. same z y ≡ false) xs) (λ y h. h.1) ys h))

-- keys in the scope of the copy ----

first_false : (x y z : Bool) → (x && y) ≡ false → y ≡ true → (x && z) ≡ false
first_false false y z e f = refl
first_false true y z e f = absurd (let no : true ≡ false = sym f ∙ e in cc)

module _ (id copy : ℕ) where
  -- the key that a definition has as one of the copy
  abbrev pub copy_key : Definition → NameKey
  copy_key d = record { name = fold d.name; scope = Some copy }

  keys_apart : (scope : Option ℕ) (d e : Definition) → same_scope d.scope scope ≡ true → same_scope e.scope scope ≡ true → same_key (key d) (key e) ≡ false → same_key (copy_key d) (copy_key e) ≡ false
  keys_apart scope d e p q h =
      let one : d.scope ≡ e.scope = same_scope_from d.scope scope p ∙ sym (same_scope_from e.scope scope q) in
      first_false (bytes_eq (fold d.name) (fold e.name)) (same_scope d.scope e.scope) (same_scope (Some copy) (Some copy)) h (ap (same_scope d.scope) (sym one) ∙ same_scope_self d.scope)

  -- definitions of one scope
  distinct_filtered : (scope : Option ℕ) (p : Definition → Bool) → ((d : Definition) → p d ≡ true → same_scope d.scope scope ≡ true) → (ds : List Definition) → IsDistinct same_key (map key ds) → IsDistinct same_key (map copy_key (filter p ds))
  unfolding IsDistinct
  distinct_filtered scope p of_scope [] h = tt
  distinct_filtered scope p of_scope (d ∷ ds) h = by_test (p d) refl (distinct_filtered scope p of_scope ds (IsDistinct-tail same_key (key d) (map key ds) h))
    where
      by_test : (t : Bool) → p d ≡ t → IsDistinct same_key (map copy_key (filter p ds)) → IsDistinct same_key (map copy_key (cond t (d ∷ filter p ds) (filter p ds)))
      by_test true e rest =
          IsDistinct-cons same_key (copy_key d) (map copy_key (filter p ds))
          (all_in_map copy_key (λ k. same_key (copy_key d) k ≡ false) (filter p ds)
          (all_filtered p (λ (x : Definition). same_key (key d) (key x) ≡ false) (λ (x : Definition). same_key (copy_key d) (copy_key x) ≡ false) (λ x f g. keys_apart scope d x (of_scope d e) (of_scope x f) g) ds
          (all_from_map key (λ k. same_key (key d) k ≡ false) ds (IsDistinct-head same_key (key d) (map key ds) h))))
          rest
      by_test false e rest = rest

  none_scope : (o : Option ℕ) → is_none o ≡ true → same_scope o None ≡ true
  none_scope None e = refl
  none_scope (Some x) e = cc

  not_true : (t : Bool) → not t ≡ true → t ≡ false
  not_true true e = cc
  not_true false e = refl

  copied_differ : (ds : List Definition) → IsDistinct same_key (map key ds) → IsDistinct same_key (map copy_key (copied_of id ds))
  copied_differ ds h =
      subst (IsDistinct same_key) (sym (appended (local_to id ds) (shared_about id ds)))
      (distinct_joined same_key (map copy_key (local_to id ds)) (map copy_key (shared_about id ds))
      (distinct_filtered (Some id) (λ d. same_scope d.scope (Some id)) (λ d e. e) ds h)
      (distinct_filtered None shared (λ d e. none_scope d.scope (shared_parts d e).0) ds h)
      (all_in_map copy_key (λ k. AllByRecursion (λ l. same_key l k ≡ false) (map copy_key (local_to id ds))) (shared_about id ds)
      (all_filtered shared (λ d. Unit {0}) (λ d. AllByRecursion (λ l. same_key l (copy_key d) ≡ false) (map copy_key (local_to id ds))) apart ds (all_each (λ d. Unit {0}) (λ d. tt) ds))))
    where
      shared : Definition → Bool
      shared d = is_none d.scope && mentions_sheet id d.body && not (list_any (λ (other : Definition). agrees other.name d.name) (local_to id ds))

      shared_parts : (d : Definition) → shared d ≡ true → (is_none d.scope ≡ true) × (list_any (λ (other : Definition). agrees other.name d.name) (local_to id ds) ≡ false)
      shared_parts d e =
          let one = and_parts (is_none d.scope && mentions_sheet id d.body) (not (list_any (λ (other : Definition). agrees other.name d.name) (local_to id ds))) e in
          ((and_parts (is_none d.scope) (mentions_sheet id d.body) one.0).0, not_true (list_any (λ (other : Definition). agrees other.name d.name) (local_to id ds)) one.1)

      appended : (xs ys : List Definition) → map copy_key (xs ++ ys) ≡ map copy_key xs ++ map copy_key ys
      appended [] ys = refl
      appended (x ∷ xs) ys = ap (λ (ks : List NameKey). copy_key x ∷ ks) (appended xs ys)

      apart : (d : Definition) → shared d ≡ true → Unit {0} → AllByRecursion (λ l. same_key l (copy_key d) ≡ false) (map copy_key (local_to id ds))
      apart d e u =
          all_in_map copy_key (λ l. same_key l (copy_key d) ≡ false) (local_to id ds)
          (all_of (λ (other : Definition). agrees other.name d.name ≡ false) (λ (other : Definition). same_key (copy_key other) (copy_key d) ≡ false)
          (λ other f. ap (λ t. t && same_scope (Some copy) (Some copy)) f) (local_to id ds)
          (none_passes (λ (other : Definition). agrees other.name d.name) (local_to id ds) (shared_parts d e).1))

  -- no definition is local to a sheet with an id that none has
  pub no_scope : (ds : List Definition) → list_any (nat_eq copy) (flat_map (λ (d : Definition). option_to_list d.scope) ds) ≡ false → AllByRecursion (λ (d : Definition). same_scope d.scope (Some copy) ≡ false) ds
  no_scope [] e = tt
  no_scope (d ∷ ds) e =
      let parts = or_parts (list_any (nat_eq copy) (option_to_list d.scope)) _ (sym (list_any-append (nat_eq copy) (option_to_list d.scope) (flat_map (λ (x : Definition). option_to_list x.scope) ds)) ∙ e) in
      (one d.scope parts.0, no_scope ds parts.1)
    where
      one : (o : Option ℕ) → list_any (nat_eq copy) (option_to_list o) ≡ false → same_scope o (Some copy) ≡ false
      one None f = refl
      one (Some k) f = nat_eq_equiv.symm k copy ∙ (or_parts (nat_eq copy k) false f).0

  pub keys_with_copies : (ds : List Definition) → IsDistinct same_key (map key ds) → list_any (nat_eq copy) (flat_map (λ (d : Definition). option_to_list d.scope) ds) ≡ false
      → IsDistinct same_key (map key ds ++ map copy_key (copied_of id ds))
  keys_with_copies ds h none =
      distinct_joined same_key (map key ds) (map copy_key (copied_of id ds)) h (copied_differ ds h)
      (all_in_map copy_key (λ k. AllByRecursion (λ l. same_key l k ≡ false) (map key ds)) (copied_of id ds)
      (all_each (λ (d : Definition). AllByRecursion (λ l. same_key l (copy_key d) ≡ false) (map key ds))
      (λ d. all_in_map key (λ l. same_key l (copy_key d) ≡ false) ds
      (all_of (λ (x : Definition). same_scope x.scope (Some copy) ≡ false) (λ (x : Definition). same_key (key x) (copy_key d) ≡ false) (λ x f. and_right (bytes_eq (fold x.name) (fold d.name)) (same_scope x.scope (Some copy)) f) ds (no_scope ds none)))
      (copied_of id ds)))
