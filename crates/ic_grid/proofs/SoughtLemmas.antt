-- Whether some place of a block passes a test, found place by place.
use Rattle.std.proofs.Common.{◌≡◌, ◌∙◌, refl, sym, ap, Bool, true, false, not, ◌&&◌, ◌||◌, List, [], ◌∷◌, IsSome, is_some}
use Rattle.std.proofs.lemmas.Bool.{and_parts, and_from, both_ways}
use Rattle.std.specs.FinMap as finite
use Rattle.std.specs.List.{list_any}
use Rattle.ic_grid.proofs.BlockLemmas.{same_by_parts}
use Rattle.ic_grid.proofs.ChangeLemmas.{first_from, right_is}
use Rattle.ic_grid.proofs.ContentsLemmas.{same_is, same_itself}
use Rattle.ic_grid.proofs.WalkLemmas.{by_side, in_block}
use Rattle.ic_grid.specs.Block.{Place, first_place, is_in_block, same_place}
use Rattle.ic_grid.specs.Contents.{Contents}
use Rattle.ic_grid.specs.Walk.{HasNoneIn, IsFirstIn, is_from, right_of}
use Rattle.ic_grid.specs.declared.block.Block.{Block}

in_list : (test : Place → Bool) (p : Place) (ks : List Place) → test p ≡ true → list_any (same_place p) ks ≡ true → list_any test ks ≡ true
in_list test p [] t e = e
in_list test p (k ∷ ks) t e =
    by_side (same_place p k) (λ s. ap (λ b. b || list_any test ks) (ap test (sym (same_is p k s)) ∙ t))
    (λ s. or_right (test k) (list_any test ks) (in_list test p ks t (ap (λ b. b || list_any (same_place p) ks) (sym s) ∙ e)))
  where
    or_right : (a b : Bool) → b ≡ true → (a || b) ≡ true
    or_right true b e = refl
    or_right false b e = e

pub witness : (test : Place → Bool) (ks : List Place) → list_any test ks ≡ true → (k : Place) × (test k ≡ true) × (list_any (same_place k) ks ≡ true)
witness test [] e = cc
witness test (k ∷ ks) e =
    by_side (test k) (λ t. (k, t, ap (λ b. b || list_any (same_place k) ks) (same_itself k)))
    (λ t. let more = witness test ks (ap (λ b. b || list_any test ks) (sym t) ∙ e) in (more.0, more.1, or_right (same_place more.0 k) (list_any (same_place more.0) ks) more.2))
  where
    or_right : (a b : Bool) → b ≡ true → (a || b) ≡ true
    or_right true b e = refl
    or_right false b e = e

module _ {X : Type 0} (m : Contents X) (b : Block) (test : Place → Bool) where
  abbrev within : Place → Bool
  within p = is_in_block b p && test p

  pub found_one : (p : Place) → IsSome (finite.get m p) → is_in_block b p ≡ true → test p ≡ true → true ≡ list_any within (finite.keys m)
  found_one p there inside t = sym (in_list within p (finite.keys m) (and_from (is_in_block b p) (test p) inside t) (sym (finite.contains_key-keys m p) ∙ there))

  -- the places so far don't pass it
  abbrev pub NoneSoFar : Place → Type 0
  NoneSoFar at = (q : Place) → is_in_block b q ≡ true → is_from at q ≡ false → IsSome (finite.get m q) → test q ≡ false

  pub none_begun : (at : Place) → at ≡ first_place b → NoneSoFar at
  none_begun at e q inside before there = absurd (both_ways (is_from at q) before (ap (λ (n : Place). is_from n q) e ∙ first_from b q (in_block b q inside)))

  module _ (at : Place) (so : NoneSoFar at) where
    pub none_more : (p : Place) → IsFirstIn m b at p → test p ≡ false → (next : Place) → next ≡ right_of p → NoneSoFar next
    none_more p first t next step q inside before there =
        by_side (is_from at q)
        (λ s. by_side (is_from p q)
        (λ u. ap test (same_is q p (same_by_parts q p ∙ sym (right_is p q u) ∙ ap not (ap (λ (n : Place). is_from n q) (sym step) ∙ before))) ∙ t)
        (λ u. let no : is_some (finite.get m q) ≡ false = ap is_some (first.first q (and_from (is_in_block b q) (is_from at q) inside s) u) in absurd (both_ways (is_some (finite.get m q)) no there)))
        (λ s. so q inside s there)

    pub none_found : HasNoneIn m b at → false ≡ list_any within (finite.keys m)
    none_found none =
        sym (by_side (list_any within (finite.keys m))
        (λ t.
        let w = witness within (finite.keys m) t in
        let both = and_parts (is_in_block b w.0) (test w.0) w.1 in
        let there : is_some (finite.get m w.0) ≡ true = finite.contains_key-keys m w.0 ∙ w.2 in
        absurd (both_ways (test w.0) (by_side (is_from at w.0)
        (λ s. let no : is_some (finite.get m w.0) ≡ false = ap is_some (none w.0 (and_from (is_in_block b w.0) (is_from at w.0) both.0 s)) in absurd (both_ways (is_some (finite.get m w.0)) no there))
        (λ s. so w.0 both.0 s there)) both.1))
        (λ t. t))
