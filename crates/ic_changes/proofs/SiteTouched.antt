-- What is listed of a pool, and of the bodies of definitions, where a rule makes them anew: those that it touches.
use Rattle.std.proofs.Common.{◌≡◌, ◌≢◌, ◌≤◌, ◌<◌, ℕ, zero, suc, drop, length, List, [], ◌∷◌, ◌++◌, map, Bool, true, false, cond, ◌&&◌, ◌||◌, not, Option, Some, None, nat_eq, refl, sym, ap, ap₂, subst, ◌∙◌, arith}
use Rattle.std.proofs.Math.Bool.{or-false}
use Rattle.std.proofs.lemmas.Bool.{eq-eqb, eqb-true}
use Rattle.std.proofs.lemmas.List.{length-drop, map-append}
use Rattle.std.proofs.lemmas.Option.{slice_get-map, slice_get_past}
use Rattle.std.specs.List.{AllByRecursion, list_any, slice_get, zip}
use Rattle.std.specs.Option.{IfSome, option_map_or}
use Rattle.std.specs.Prelude.{flat_map, option_map, unwrap_or}
use Rattle.ic_laws.specs.CoreBook.{Definition}
use Rattle.ic_laws.specs.CoreStep.{updated_at}
use Rattle.ic_laws.specs.Keeping.{KeyChange}
use Rattle.ic_laws.specs.Scene.{same_key}
use Rattle.ic_laws.specs.declared.tree.Formula.{Formula}
use Rattle.ic_laws.specs.declared.tree.Formula.TheVariants as formulas
use Rattle.ic_laws.specs.declared.tree.NameKey.{NameKey}
use Rattle.ic_definitions.specs.Named.{key_in}
use Rattle.ic_definitions.specs.Remade.{LeavesBody, remade_body, touched_bodies}
use Rattle.ic_definitions.specs.declared.bodies.NewBody.{NewBody}
use Rattle.ic_keep.specs.Alike.{AreAlikeFormulas}
use Rattle.ic_machine.proofs.valid.ValidLemmas.{all_at}
use Rattle.ic_machine.specs.Capture.{captured_body, captured_formula}
use Rattle.ic_machine.specs.Content.{formula_in}
use Rattle.ic_machine.specs.Refusal.{DefinitionSite, Site}
use Rattle.ic_pool.specs.Remade.{LeavesUntouched, Remade, touched_from}
use Rattle.ic_pool.specs.declared.pool.rewrites.Replacement.{Replacement}
use Rattle.ic_parts.specs.Sites.{IsAlikeBody, IsAlikeIn, body_site, body_sites, captures, captures_at, site_of}
use Rattle.ic_parts.specs.declared.sites.MentionSite.TheVariants as sites
use Rattle.ic_pool.proofs.ListedLemmas.{below as apart}

-- what is left of a list from a place on: the item that stands there, and what is left from the next
left_from : {X : Type 0} (all : List X) (at : ℕ) (x : X) (rest : List X) → drop at all ≡ x ∷ rest → (slice_get all at ≡ Some x) × (drop (suc at) all ≡ rest)
left_from [] zero x rest e = cc
left_from [] (suc at) x rest e = cc
left_from (y ∷ ys) zero x rest e = (let same : y ≡ x = cc in ap (λ z. Some z) same, let same : ys ≡ rest = cc in same)
left_from (y ∷ ys) (suc at) x rest e = left_from ys at x rest e

past_it : (index at : ℕ) → at ≤ index → nat_eq index at ≡ false → suc at ≤ index
past_it index at le not_it =
    let differ : index ≢ at = λ same. (let no : true ≡ false = sym (eq-eqb index at same) ∙ not_it in cc) in
    omega (arith, le, differ)

-- a pool ----

module _ (made : Remade) (keys : KeyChange) (scope : Option ℕ) (all : List Formula) where
  abbrev becomes : Formula → Formula
  becomes x = made.becomes scope x

  abbrev hits : ℕ → Replacement → Bool
  hits index new = nat_eq index new.at && captures keys all new

  -- what a formula becomes captures a word of it, where it is touched
  abbrev its : Formula → Bool
  its x = made.touches scope x && captured_formula keys x (becomes x)

  -- what is listed keeps the shapes of the formulas
  pub alike_from : (alike : (x : Formula) → AreAlikeFormulas x (becomes x)) (xs : List Formula) (at : ℕ) → drop at all ≡ xs → AllByRecursion (IsAlikeIn all) (touched_from made scope at xs)
  alike_from alike [] at e = tt
  alike_from alike (x ∷ xs) at e = by_touch (made.touches scope x) (alike_from alike xs (suc at) (left_from all at x xs e).1)
    where
      by_touch : (b : Bool) → AllByRecursion (IsAlikeIn all) (touched_from made scope (suc at) xs) → AllByRecursion (IsAlikeIn all) (cond b (record { at = at; formula = becomes x } ∷ touched_from made scope (suc at) xs) (touched_from made scope (suc at) xs))
      by_touch true rest = (subst (λ o. IfSome o (λ f. AreAlikeFormulas f (becomes x))) (sym (left_from all at x xs e).0) (alike x), rest)
      by_touch false rest = rest

  none_before : (xs : List Formula) (at index : ℕ) → index < at → list_any (hits index) (touched_from made scope at xs) ≡ false
  none_before [] at index lt = refl
  none_before (x ∷ xs) at index lt = by_touch (made.touches scope x) (none_before xs (suc at) index (omega (arith, lt)))
    where
      by_touch : (b : Bool) → list_any (hits index) (touched_from made scope (suc at) xs) ≡ false
          → list_any (hits index) (cond b (record { at = at; formula = becomes x } ∷ touched_from made scope (suc at) xs) (touched_from made scope (suc at) xs)) ≡ false
      by_touch true rest = ap₂ (λ a b. a && captures keys all (record { at = at; formula = becomes x }) || b) (apart index at lt (nat_eq index at) refl) rest
      by_touch false rest = rest

  hits_from : (xs : List Formula) (at index : ℕ) → drop at all ≡ xs → at ≤ index → list_any (hits index) (touched_from made scope at xs) ≡ option_map_or its (slice_get all index) false
  hits_from [] at index e le =
      let short : length all ≤ index = let none = sym (length-drop at all) ∙ ap length e in omega (arith, none, le) in
      ap (λ o. option_map_or its o false) (sym (slice_get_past all index short))
  hits_from (x ∷ xs) at index e le = by_place (nat_eq index at) refl (λ further. hits_from xs (suc at) index (left_from all at x xs e).1 further)
    where
      next : (slice_get all at ≡ Some x) × (drop (suc at) all ≡ xs)
      next = left_from all at x xs e

      new : Replacement
      new = record { at = at; formula = becomes x }

      own : captures keys all new ≡ captured_formula keys x (becomes x)
      own = ap (λ o. option_map_or (λ f. captured_formula keys f (becomes x)) o false) next.0

      here : (b : Bool) → nat_eq index at ≡ true → list_any (hits index) (touched_from made scope (suc at) xs) ≡ false
          → list_any (hits index) (cond b (new ∷ touched_from made scope (suc at) xs) (touched_from made scope (suc at) xs)) ≡ (b && captured_formula keys x (becomes x))
      here true is rest = ap₂ (λ (a c : Bool). a && c || list_any (hits index) (touched_from made scope (suc at) xs)) is own ∙ ap (λ b. captured_formula keys x (becomes x) || b) rest ∙ or-false (captured_formula keys x (becomes x))
      here false is rest = rest

      later : (b : Bool) → nat_eq index at ≡ false → list_any (hits index) (touched_from made scope (suc at) xs) ≡ option_map_or its (slice_get all index) false
          → list_any (hits index) (cond b (new ∷ touched_from made scope (suc at) xs) (touched_from made scope (suc at) xs)) ≡ option_map_or its (slice_get all index) false
      later true not_it rest = ap (λ a. a && captures keys all new || list_any (hits index) (touched_from made scope (suc at) xs)) not_it ∙ rest
      later false not_it rest = rest

      by_place : (b : Bool) → nat_eq index at ≡ b → (suc at ≤ index → list_any (hits index) (touched_from made scope (suc at) xs) ≡ option_map_or its (slice_get all index) false)
          → list_any (hits index) (touched_from made scope at (x ∷ xs)) ≡ option_map_or its (slice_get all index) false
      by_place true is rest =
          let same : index ≡ at = eqb-true index at is in
          here (made.touches scope x) is (none_before xs (suc at) index (omega (arith, same))) ∙ ap (λ o. option_map_or its o false) (sym (ap (slice_get all) same ∙ next.0))
      by_place false is rest = later (made.touches scope x) is (rest (past_it index at le is))

  -- what is listed of a pool captures at an index exactly where the formula there is captured when it is made anew
  pub captures_listed : AllByRecursion (LeavesUntouched made scope) all → ((x : Formula) → made.touches scope x ≡ false → captured_formula keys x x ≡ false) → (index : ℕ)
      → captures_at keys all (touched_from made scope 0 all) index ≡ captured_formula keys (formula_in all index) (formula_in (map becomes all) index)
  captures_listed stay spared index =
      hits_from all 0 index refl (omega arith)
      ∙ by_formula (slice_get all index) (λ x e. all_at (LeavesUntouched made scope) index all x stay e)
      ∙ ap (λ o. captured_formula keys (formula_in all index) (unwrap_or o (formulas.Raw []))) (sym (slice_get-map becomes all index))
    where
      its_capture : (x : Formula) → LeavesUntouched made scope x → (b : Bool) → made.touches scope x ≡ b → its x ≡ captured_formula keys x (becomes x)
      its_capture x stays true is = ap (λ b. b && captured_formula keys x (becomes x)) is
      its_capture x stays false is = ap (λ b. b && captured_formula keys x (becomes x)) is ∙ sym (ap (captured_formula keys x) (stays is) ∙ spared x is)

      by_formula : (o : Option Formula) → ((x : Formula) → o ≡ Some x → LeavesUntouched made scope x)
          → option_map_or its o false ≡ captured_formula keys (unwrap_or o (formulas.Raw [])) (unwrap_or (option_map becomes o) (formulas.Raw []))
      by_formula None h = refl
      by_formula (Some x) h = its_capture x (h x refl) (made.touches scope x) refl

-- the bodies of definitions ----

module _ (made : Remade) (all : List Definition) where
  pub alike_bodies_from : (alike : (scope : Option ℕ) (x : Formula) → AreAlikeFormulas x (made.becomes scope x)) (ds : List Definition) (at : ℕ) → drop at all ≡ ds → AllByRecursion (IsAlikeBody all) (touched_bodies made at ds)
  alike_bodies_from alike [] at e = tt
  alike_bodies_from alike (d ∷ ds) at e = by_touch (made.touches d.scope d.body) (alike_bodies_from alike ds (suc at) (left_from all at d ds e).1)
    where
      by_touch : (b : Bool) → AllByRecursion (IsAlikeBody all) (touched_bodies made (suc at) ds) → AllByRecursion (IsAlikeBody all) (cond b (record { at = at; body = made.becomes d.scope d.body } ∷ touched_bodies made (suc at) ds) (touched_bodies made (suc at) ds))
      by_touch true rest = (subst (λ o. IfSome o (λ (x : Definition). AreAlikeFormulas x.body (made.becomes d.scope d.body))) (sym (left_from all at d ds e).0) (alike d.scope d.body), rest)
      by_touch false rest = rest

module _ (made : Remade) (keys : KeyChange) (updated : NameKey) where
  -- one definition's site, as the machine has it
  site_seen : (d : Definition) (body : Formula) → map site_of (body_site keys updated body d) ≡ captured_body keys updated (d, record d { body = body })
  site_seen d body = by_tests (same_key updated (key_in d)) (captured_formula keys d.body body)
    where
      by_tests : (a b : Bool) → map site_of (cond (not a && b) (sites.Definition (key_in d) ∷ []) []) ≡ cond a [] (cond b (DefinitionSite (key_in d) ∷ []) [])
      by_tests true b = refl
      by_tests false true = refl
      by_tests false false = refl

  -- a definition whose body stays has none
  none_there : (d : Definition) → captured_formula keys d.body d.body ≡ false → captured_body keys updated (d, d) ≡ []
  none_there d e = by_key (same_key updated (key_in d))
    where
      by_key : (a : Bool) → cond a [] (cond (captured_formula keys d.body d.body) (DefinitionSite (key_in d) ∷ []) []) ≡ []
      by_key true = refl
      by_key false = ap (λ b. let all : List Site = cond b (DefinitionSite (key_in d) ∷ []) [] in all) e

  module _ (all : List Definition) where
    pub bodies_from : (spared : (scope : Option ℕ) (x : Formula) → made.touches scope x ≡ false → captured_formula keys x x ≡ false) (ds : List Definition) (at : ℕ) → drop at all ≡ ds
        → AllByRecursion (LeavesBody made) ds
        → map site_of (flat_map (body_sites keys updated all) (touched_bodies made at ds)) ≡ flat_map (captured_body keys updated) (zip ds (map (remade_body made) ds))
    bodies_from spared [] at e stay = refl
    bodies_from spared (d ∷ ds) at e stay = by_touch (made.touches d.scope d.body) refl (bodies_from spared ds (suc at) (left_from all at d ds e).1 stay.1)
      where
        next : (slice_get all at ≡ Some d) × (drop (suc at) all ≡ ds)
        next = left_from all at d ds e

        new : NewBody
        new = record { at = at; body = made.becomes d.scope d.body }

        left : List NewBody
        left = touched_bodies made (suc at) ds

        others : List Site
        others = flat_map (captured_body keys updated) (zip ds (map (remade_body made) ds))

        by_touch : (b : Bool) → made.touches d.scope d.body ≡ b → map site_of (flat_map (body_sites keys updated all) left) ≡ others
            → map site_of (flat_map (body_sites keys updated all) (cond b (new ∷ left) left)) ≡ captured_body keys updated (d, remade_body made d) ++ others
        by_touch true is rest =
            map-append site_of (body_sites keys updated all new) (flat_map (body_sites keys updated all) left)
            ∙ ap₂ (λ (a b : List Site). a ++ b) (ap (λ o. map site_of (option_map_or (body_site keys updated new.body) o [])) next.0 ∙ site_seen d new.body) rest
        by_touch false is rest =
            rest
            ∙ ap (λ (none : List Site). none ++ others)
            (sym (ap (λ body. captured_body keys updated (d, record d { body = body })) (stay.0 is) ∙ none_there d (spared d.scope d.body is)))

  -- another definition in the place of the updated one makes no difference
  pub updated_apart : (new : Definition) (ds after : List Definition) (index : ℕ) → ((d : Definition) → slice_get ds index ≡ Some d → same_key updated (key_in d) ≡ true)
      → flat_map (captured_body keys updated) (zip ds (updated_at (λ d. new) index after)) ≡ flat_map (captured_body keys updated) (zip ds after)
  updated_apart new [] after index its = refl
  updated_apart new (d ∷ ds) [] index its = refl
  updated_apart new (d ∷ ds) (x ∷ after) zero its =
      ap (λ b. let all : List Site = cond b [] (cond (captured_formula keys d.body new.body) (DefinitionSite (key_in d) ∷ []) []) ++ flat_map (captured_body keys updated) (zip ds after) in all) (its d refl)
      ∙ sym (ap (λ b. let all : List Site = cond b [] (cond (captured_formula keys d.body x.body) (DefinitionSite (key_in d) ∷ []) []) ++ flat_map (captured_body keys updated) (zip ds after) in all) (its d refl))
  updated_apart new (d ∷ ds) (x ∷ after) (suc index) its = ap (λ rest. captured_body keys updated (d, x) ++ rest) (updated_apart new ds after index its)
