-- Whether the values of an ordered map pass a test, and what the finite map has that contracts see.
use Rattle.std.proofs.Common.{◌≡◌, ◌∙◌, refl, sym, ap, ℕ, Bool, true, cond, List, [], ◌∷◌, Option, Some, None}
use Rattle.std.proofs.lemmas.Bool.{and_from, and_parts}
use Rattle.std.proofs.lemmas.Bool.Decides.{Decides-ltb}
use Rattle.std.proofs.lemmas.List.Elements.{All-head, All-tail}
use Rattle.std.proofs.lemmas.Map.Views.{All-found}
use Rattle.std.specs.BTreeMap as tree
use Rattle.std.specs.BTreeMap.{BTreeMap, IsOrdered, is_at}
use Rattle.std.specs.Bool.{Decides}
use Rattle.std.specs.Cmp.{IsTotalOrder}
use Rattle.std.specs.FinMap as finite
use Rattle.std.specs.List.{All, list_all}
use Rattle.std.specs.Map.{lookup, values_of}
use Rattle.std.specs.declared.cmp.Ordering.{Ordering}
use Rattle.ic_grid.proofs.WalkLemmas.{by_side, map_get}
use Rattle.ic_grid.specs.Conditions.{IsStyleNumber, is_style_number}

module _ {K X : Type 0} (test : X → Bool) where
  found_passes : (at : K → Bool) (es : List (K × X)) → list_all test (values_of es) ≡ true → (x : X) → lookup at es ≡ Some x → test x ≡ true
  found_passes at [] all x e = cc
  found_passes at (f ∷ es) all x e =
      by_side (at f.0)
      (λ t.
      let one : Some f.1 ≡ Some x = sym (ap (λ b. let o : Option X = cond b (Some f.1) (lookup at es) in o) t) ∙ e in
      let same : f.1 ≡ x = cc in
      ap test (sym same) ∙ (and_parts (test f.1) (list_all test (values_of es)) all).0)
      (λ t. found_passes at es (and_parts (test f.1) (list_all test (values_of es)) all).1 x (sym (ap (λ b. let o : Option X = cond b (Some f.1) (lookup at es) in o) t) ∙ e))

  all_pass : (P : K × X → Type 0) → ((e : K × X) → P e → test e.1 ≡ true) → (es : List (K × X)) → All P es → list_all test (values_of es) ≡ true
  all_pass P h [] all = refl
  all_pass P h (e ∷ es) all = and_from (test e.1) (list_all test (values_of es)) (h e (All-head P e es all)) (all_pass P h es (All-tail P e es all))

  module _ {R : K → K → Ordering} (o : IsTotalOrder R) (m : BTreeMap K X) (v : finite.FinMap R X) (e : finite.from_entries m.entries ≡ v) where
    -- all values pass exactly where each one that the finite map has does
    pub values_pass : (r : Bool) → r ≡ list_all test (tree.values m) → IsOrdered R m → Decides r ((q : K) (x : X) → finite.get v q ≡ Some x → test x ≡ true)
    values_pass r is ordered = (
      λ t q x found. found_passes (is_at (R q)) m.entries (sym is ∙ t) x (map_get o m v e q ∙ found),
      λ each. is ∙ all_pass (λ f. tree.get R m f.0 ≡ Some f.1) (λ f found. each f.0 f.1 (sym (map_get o m v e f.0) ∙ found)) m.entries (All-found o m ordered),
    )

-- and it does for the number of a style
pub number_decided : (count : ℕ) (o : Option ℕ) → Decides (is_style_number count o) (IsStyleNumber count o)
number_decided count None = (λ e. tt, λ e. refl)
number_decided count (Some n) = Decides-ltb n count

-- so it is where the test decides something
pub values_decided : {K X : Type 0} {R : K → K → Ordering} (P : X → Type 0) (test : X → Bool) → ((x : X) → Decides (test x) (P x)) → IsTotalOrder R → (m : BTreeMap K X) (v : finite.FinMap R X) → finite.from_entries m.entries ≡ v
    → (r : Bool) → r ≡ list_all test (tree.values m) → IsOrdered R m → Decides r ((q : K) (x : X) → finite.get v q ≡ Some x → P x)
values_decided P test decides o m v e r is ordered =
    let both = values_pass test o m v e r is ordered in (
      λ t q x found. (decides x).0 (both.0 t q x found),
      λ each. both.1 (λ q x found. (decides x).1 (each q x found)),
    )
