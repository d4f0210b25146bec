-- Whether a formula of a pool passes a test is seen at the places that its index has of the test's topics.
use Rattle.std.proofs.Common.{◌≡◌, ℕ, zero, suc, List, [], ◌∷◌, Bool, true, false, ◌||◌, Option, Some, refl, sym, ap, ◌∙◌}
use Rattle.std.specs.Prelude.{nat_eq}
use Rattle.std.specs.List.{list_any, slice_get}
use Rattle.std.specs.Option.{option_map_or}
use Rattle.std.proofs.lemmas.Bool.{eqb-true}
use Rattle.ic_laws.specs.declared.tree.Formula.{Formula}
use Rattle.ic_pool.specs.MentionPlaces.{KnowsAll, Noted, places_with}
use Rattle.ic_pool.specs.Mentioning.{passes_at}
use Rattle.ic_pool.specs.Pool.{is_among}
use Rattle.ic_pool.specs.Tested.{PassesAbout, Test}
use Rattle.ic_pool.specs.Topics.{topics_in}

module _ (test : Formula → Bool) where
  -- where one at a place passes, some does
  some_passes : (formulas : List Formula) (at : ℕ) → passes_at test formulas at ≡ true → list_any test formulas ≡ true
  some_passes [] at e = cc
  some_passes (x ∷ xs) zero e = ap (λ b. b || list_any test xs) e
  some_passes (x ∷ xs) (suc at) e = ap (λ b. test x || b) (some_passes xs at e) ∙ or_true (test x)
    where
      or_true : (b : Bool) → (b || true) ≡ true
      or_true true = refl
      or_true false = refl

  seen : (formulas : List Formula) (places : List ℕ) → list_any (passes_at test formulas) places ≡ true → list_any test formulas ≡ true
  seen formulas [] e = cc
  seen formulas (at ∷ places) e = by_test (passes_at test formulas at) refl e (seen formulas places)
    where
      by_test : (b : Bool) → passes_at test formulas at ≡ b → (b || list_any (passes_at test formulas) places) ≡ true → (list_any (passes_at test formulas) places ≡ true → list_any test formulas ≡ true) → list_any test formulas ≡ true
      by_test true is e more = some_passes formulas at is
      by_test false is e more = more e

  -- where none at any place passes, none does
  none_passes : (formulas : List Formula) → ((at : ℕ) (x : Formula) → slice_get formulas at ≡ Some x → test x ≡ false) → list_any test formulas ≡ false
  none_passes [] none = refl
  none_passes (x ∷ xs) none = ap (λ b. b || list_any test xs) (none 0 x refl) ∙ none_passes xs (λ at y e. none (suc at) y e)

  -- where it passes at none of these places, it doesn't at one of them
  unseen : (formulas : List Formula) (places : List ℕ) (at : ℕ) (x : Formula) → slice_get formulas at ≡ Some x → list_any (passes_at test formulas) places ≡ false → is_among at places ≡ true → test x ≡ false
  unseen formulas [] at x is none among = cc
  unseen formulas (k ∷ places) at x is none among = by_test (nat_eq at k) refl among (passes_at test formulas k) refl none (unseen formulas places at x is)
    where
      by_test : (b : Bool) → nat_eq at k ≡ b → (b || is_among at places) ≡ true → (p : Bool) → passes_at test formulas k ≡ p → (p || list_any (passes_at test formulas) places) ≡ false
          → (list_any (passes_at test formulas) places ≡ false → is_among at places ≡ true → test x ≡ false) → test x ≡ false
      by_test b same among true passes none more = cc
      by_test true same among false passes none more = sym (ap (λ (o : Option Formula). option_map_or test o false) is) ∙ ap (passes_at test formulas) (eqb-true at k same) ∙ passes
      by_test false same among false passes none more = more none among

-- a formula that passes is seen at the places of the topics that the test is about
module _ (test : Test) (scope : Option ℕ) (one other : ℕ) (index : Noted) (formulas : List Formula) (about : PassesAbout test (one ∷ other ∷ [])) (knows : KnowsAll index formulas) where
  abbrev seen_at : ℕ → Bool
  seen_at topic = list_any (passes_at (test scope) formulas) (places_with index topic)

  spared : (at : ℕ) (x : Formula) → slice_get formulas at ≡ Some x → seen_at one ≡ false → seen_at other ≡ false → test scope x ≡ false
  spared at x is none nor = by_one (is_among one (topics_in x)) refl (is_among other (topics_in x)) refl
    where
      by_one : (b : Bool) → is_among one (topics_in x) ≡ b → (c : Bool) → is_among other (topics_in x) ≡ c → test scope x ≡ false
      by_one true e c f = unseen (test scope) formulas (places_with index one) at x is none (knows at x is one e)
      by_one false e true f = unseen (test scope) formulas (places_with index other) at x is nor (knows at x is other f)
      by_one false e false f = about scope x (ap (λ b. b || (is_among other (topics_in x) || false)) e ∙ ap (λ b. b || false) f)

  pub passing_seen : seen_at one ≡ true → true ≡ list_any (test scope) formulas
  passing_seen e = sym (seen (test scope) formulas (places_with index one) e)

  pub passing_beside : seen_at one ≡ false → seen_at other ≡ list_any (test scope) formulas
  passing_beside none = by_test (seen_at other) refl
    where
      by_test : (b : Bool) → seen_at other ≡ b → b ≡ list_any (test scope) formulas
      by_test true e = sym (seen (test scope) formulas (places_with index other) e)
      by_test false nor = sym (none_passes (test scope) formulas (λ at x is. spared at x is none nor))
