-- Definitions that are copied with a sheet, one after another, and their bodies.
use Rattle.std.proofs.Common.{◌≡◌, ℕ, ◌+◌, ◌<◌, ◌≤◌, List, [], ◌∷◌, ◌++◌, map, length, Bool, true, false, cond, ◌&&◌, ◌||◌, drop, get_or, refl, sym, ap, ap₂, subst, ◌∙◌, arith, append_assoc, if◌then◌else◌}
use Rattle.std.proofs.lemmas.Bool.{and_right}
use Rattle.std.proofs.lemmas.List.{drop_more, length-append, map-append}
use Rattle.std.proofs.lemmas.Map.Keys.{IsDistinct-cons, IsDistinct-head, IsDistinct-tail}
use Rattle.std.specs.List.{AllByRecursion, IsDistinct, filter, list_any}
use Rattle.std.specs.Prelude.{Some, nat_eq}
use Rattle.ic_laws.proofs.core.Lists.{length_updated}
use Rattle.ic_laws.specs.CoreBook.{Definition}
use Rattle.ic_laws.specs.CoreStep.{is_named, updated_at}
use Rattle.ic_laws.specs.Name.{agrees}
use Rattle.ic_laws.specs.Scene.{same_key, same_scope}
use Rattle.ic_laws.specs.declared.tree.Formula.{Formula}
use Rattle.ic_definitions.specs.Named.{key_in, scopes_of}
use Rattle.ic_machine.proofs.bound.CopyKeys.{copy_key, keys_with_copies, no_scope}
use Rattle.ic_machine.specs.subjects.Sheets.{copied_of, local_in, local_to, with_formula}
use Rattle.ic_changes.specs.Copied.{with_each_body}
use Rattle.ic_laws.proofs.General.{map-map as map_twice}

-- no key before an item of a list is its own ----

-- none of these has the key of what stands behind them
pub free_before : (ds rest : List Definition) (e : Definition) → IsDistinct same_key (map key_in (ds ++ e ∷ rest)) → list_any (is_named e.name e.scope) ds ≡ false
free_before [] rest e h = refl
free_before (d ∷ ds) rest e h =
    ap₂ (λ (a b : Bool). a || b) (found ds (IsDistinct-head same_key (key_in d) (map key_in (ds ++ e ∷ rest)) h)) (free_before ds rest e (IsDistinct-tail same_key (key_in d) (map key_in (ds ++ e ∷ rest)) h))
  where
    found : (xs : List Definition) → AllByRecursion (λ k. same_key (key_in d) k ≡ false) (map key_in (xs ++ e ∷ rest)) → same_key (key_in d) (key_in e) ≡ false
    found [] all = all.0
    found (x ∷ xs) all = found xs all.1

-- the first of several that differ do
pub distinct_first : {X : Type 0} (same : X → X → Bool) (xs ys : List X) → IsDistinct same (xs ++ ys) → IsDistinct same xs
unfolding IsDistinct
distinct_first same [] ys h = tt
distinct_first same (x ∷ xs) ys h = IsDistinct-cons same x xs (front xs (IsDistinct-head same x (xs ++ ys) h)) (distinct_first same xs ys (IsDistinct-tail same x (xs ++ ys) h))
  where
    front : (zs : List _) → AllByRecursion (λ y. same x y ≡ false) (zs ++ ys) → AllByRecursion (λ y. same x y ≡ false) zs
    front [] all = tt
    front (z ∷ zs) all = (all.0, front zs all.1)

distinct_last : {X : Type 0} (same : X → X → Bool) (xs ys : List X) → IsDistinct same (xs ++ ys) → IsDistinct same ys
distinct_last same [] ys h = h
distinct_last same (x ∷ xs) ys h = distinct_last same xs ys (IsDistinct-tail same x (xs ++ ys) h)

-- definitions of a book, none of which is local to the sheet with this id
module _ (source id : ℕ) (ds : List Definition) (unscoped : list_any (nat_eq id) (scopes_of ds) ≡ false) where
  -- no two that are copied have one key as ones that are local to it
  pub copies_differ : IsDistinct same_key (map key_in ds) → IsDistinct same_key (map key_in (map (local_in id) (copied_of source ds)))
  copies_differ h =
      subst (IsDistinct same_key) (map_twice (local_in id) key_in (copied_of source ds))
      (distinct_last same_key (map key_in ds) (map (copy_key source id) (copied_of source ds)) (keys_with_copies source id ds h unscoped))

  none_named : (name : List ℕ) (xs : List Definition) → AllByRecursion (λ (d : Definition). same_scope d.scope (Some id) ≡ false) xs → list_any (is_named name (Some id)) xs ≡ false
  none_named name [] h = refl
  none_named name (d ∷ xs) h = ap₂ (λ (a b : Bool). a || b) (and_right (agrees d.name name) (same_scope d.scope (Some id)) h.0) (none_named name xs h.1)

  -- none of the book's has the key of such a one
  pub copies_apart : (cs copied : List Definition) → cs ≡ map (local_in id) copied → AllByRecursion (λ (d : Definition). list_any (is_named d.name d.scope) ds ≡ false) cs
  copies_apart cs copied e = subst (AllByRecursion (λ (d : Definition). list_any (is_named d.name d.scope) ds ≡ false)) (sym e) (each copied)
    where
      each : (xs : List Definition) → AllByRecursion (λ (d : Definition). list_any (is_named d.name d.scope) ds ≡ false) (map (local_in id) xs)
      each [] = tt
      each (d ∷ xs) = (none_named d.name ds (no_scope source id ds unscoped), each xs)

-- a name that agrees with that of one which is local to a sheet
pub local_named : (name : List ℕ) (id : ℕ) (ds : List Definition) → list_any (is_named name (Some id)) ds ≡ list_any (λ (other : Definition). agrees other.name name) (local_to id ds)
local_named name id [] = refl
local_named name id (d ∷ ds) = step (same_scope d.scope (Some id)) (local_named name id ds)
  where
    step : (b : Bool) → list_any (is_named name (Some id)) ds ≡ list_any (λ (other : Definition). agrees other.name name) (local_to id ds)
        → (agrees d.name name && b || list_any (is_named name (Some id)) ds) ≡ list_any (λ (other : Definition). agrees other.name name) (cond b (d ∷ local_to id ds) (local_to id ds))
    step true e = by_test (agrees d.name name)
      where
        by_test : (t : Bool) → (t && true || list_any (is_named name (Some id)) ds) ≡ (t || list_any (λ (other : Definition). agrees other.name name) (local_to id ds))
        by_test true = refl
        by_test false = e
    step false e = by_test (agrees d.name name)
      where
        by_test : (t : Bool) → (t && false || list_any (is_named name (Some id)) ds) ≡ list_any (λ (other : Definition). agrees other.name name) (local_to id ds)
        by_test true = e
        by_test false = e

-- the copies of those that pass ----

module _ (id : ℕ) (p : Definition → Bool) (ds old : List Definition) where
  abbrev pub copied_from : List Definition → List Definition
  copied_from xs = map (local_in id) (filter p xs)

  -- the rest of them comes behind what is there
  abbrev pub IsLeft : ℕ → List Definition → Type 0
  IsLeft index now = now ++ copied_from (drop index ds) ≡ old ++ copied_from ds

  module _ (index : ℕ) (now : List Definition) (left : IsLeft index now) (d : Definition) (within : index < length ds) (read : d ≡ get_or ds index d) where
    next : drop index ds ≡ d ∷ drop (index + 1) ds
    next = drop_more ds index d within ∙ ap (λ x. x ∷ drop (index + 1) ds) (sym read)

    passes_left : p d ≡ true → now ++ (local_in id d ∷ copied_from (drop (index + 1) ds)) ≡ old ++ copied_from ds
    passes_left e =
        sym (ap (λ xs. now ++ copied_from xs) next ∙ ap (λ b. now ++ map (local_in id) (cond b (d ∷ filter p (drop (index + 1) ds)) (filter p (drop (index + 1) ds)))) e)
        ∙ left

    -- none there has the key of the next one
    pub copy_is_free : IsDistinct same_key (map key_in (old ++ copied_from ds)) → p d ≡ true → list_any (is_named d.name (Some id)) now ≡ false
    copy_is_free differ e = free_before now (copied_from (drop (index + 1) ds)) (local_in id d) (subst (λ xs. IsDistinct same_key (map key_in xs)) (sym (passes_left e)) differ)

    pub copy_pushed : (new : List Definition) (b : Bool) → b ≡ p d → new ≡ now ++ (if b then local_in id d ∷ [] else []) → IsLeft (index + 1) new
    copy_pushed new true e pushed =
        ap (λ xs. xs ++ copied_from (drop (index + 1) ds)) pushed ∙ append_assoc now (local_in id d ∷ []) (copied_from (drop (index + 1) ds)) ∙ passes_left (sym e)
    copy_pushed new false e pushed =
        ap (λ xs. xs ++ copied_from (drop (index + 1) ds)) pushed ∙ append_assoc now [] (copied_from (drop (index + 1) ds))
        ∙ sym (ap (λ xs. now ++ copied_from xs) next ∙ ap (λ b. now ++ map (local_in id) (cond b (d ∷ filter p (drop (index + 1) ds)) (filter p (drop (index + 1) ds)))) (sym e)) ∙ left

-- the copies of the first, then those of the others
module _ (id : ℕ) (first more old : List Definition) (none : old ≡ []) where
  abbrev Differ : List Definition → Type 0
  Differ ds = IsDistinct same_key (map key_in ds)

  both : map (local_in id) first ++ map (local_in id) more ≡ map (local_in id) (first ++ more)
  both = sym (map-append (local_in id) first more)

  all_differ : Differ (map (local_in id) (first ++ more)) → Differ (map (local_in id) first ++ map (local_in id) more)
  all_differ h = subst Differ (sym both) h

  pub first_differ : Differ (map (local_in id) (first ++ more)) → IsDistinct same_key (map key_in (old ++ map (local_in id) first))
  first_differ h =
      subst (λ xs. Differ (xs ++ map (local_in id) first)) (sym none)
      (distinct_first same_key (map key_in (map (local_in id) first)) (map key_in (map (local_in id) more))
      (subst (IsDistinct same_key) (map-append key_in (map (local_in id) first) (map (local_in id) more)) (all_differ h)))

  module _ (now : List Definition) (made : now ≡ old ++ map (local_in id) first) where
    now_is : now ≡ map (local_in id) first
    now_is = made ∙ ap (λ xs. xs ++ map (local_in id) first) none

    pub more_differ : Differ (map (local_in id) (first ++ more)) → IsDistinct same_key (map key_in (now ++ map (local_in id) more))
    more_differ h = subst (λ xs. Differ (xs ++ map (local_in id) more)) (sym now_is) (all_differ h)

    pub all_copied : (new : List Definition) → new ≡ now ++ map (local_in id) more → new ≡ map (local_in id) (first ++ more)
    all_copied new e = e ∙ ap (λ xs. xs ++ map (local_in id) more) now_is ∙ both

-- their bodies ----

-- the last body is put
pub last_put : (bodies : List Formula) (body : Formula) (ds : List Definition) → length bodies < length ds → with_each_body (bodies ++ body ∷ []) ds ≡ with_each_body bodies (updated_at (λ d. record d { body = body }) (length bodies) ds)
last_put [] body [] lt = absurd (omega (arith, lt))
last_put [] body (d ∷ ds) lt = refl
last_put (b ∷ bodies) body [] lt = absurd (omega (arith, lt))
last_put (b ∷ bodies) body (d ∷ ds) lt = ap (λ (rest : List Definition). record d { body = b } ∷ rest) (last_put bodies body ds (omega (arith, lt)))

pub body_put : (made before new : List Definition) (bodies now : List Formula) (body : Formula) (len : ℕ) → with_each_body bodies before ≡ made → length bodies ≤ length before → bodies ≡ now ++ body ∷ [] → len ≡ length now
    → new ≡ updated_at (λ d. record d { body = body }) len before → (with_each_body now new ≡ made) × (length now ≤ length new)
body_put made before new bodies now body len left within last counted put =
    let longer : length bodies ≡ length now + 1 = ap length last ∙ length-append now (body ∷ []) in
    let lt : length now < length before = omega (arith, within, longer) in
    let is : new ≡ updated_at (λ d. record d { body = body }) (length now) before = put ∙ ap (λ k. updated_at (λ d. record d { body = body }) k before) counted in
    let same : length new ≡ length before = ap length is ∙ length_updated (λ d. record d { body = body }) (length now) before in
    (ap (with_each_body now) is ∙ sym (last_put now body before lt) ∙ ap (λ bs. with_each_body bs before) (sym last) ∙ left, omega (arith, lt, same))

-- each made of its own
pub each_made : (f : Formula → Formula) (ds : List Definition) → with_each_body (map (λ (d : Definition). f d.body) ds) ds ≡ map (with_formula f) ds
each_made f [] = refl
each_made f (d ∷ ds) = ap (λ (rest : List Definition). with_formula f d ∷ rest) (each_made f ds)

-- the keys stay
pub still_apart : (f : Formula → Formula) (old ds : List Definition) → AllByRecursion (λ (d : Definition). list_any (is_named d.name d.scope) old ≡ false) ds → AllByRecursion (λ (d : Definition). list_any (is_named d.name d.scope) old ≡ false) (map (with_formula f) ds)
still_apart f old [] h = tt
still_apart f old (d ∷ ds) h = (h.0, still_apart f old ds h.1)
