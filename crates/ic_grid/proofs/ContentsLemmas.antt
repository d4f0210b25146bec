-- What stands at each place of contents that were remade, and when two contents are one.
use Rattle.std.proofs.Common.{◌≡◌, ◌∙◌, refl, sym, ap, Bool, true, false, cond, List, [], ◌∷◌, Option, Some, None}
use Rattle.std.specs.Cmp.{eq_by_cmp_equiv}
use Rattle.std.specs.FinMap as finite
use Rattle.std.specs.Option.{option_and_then}
use Rattle.ic_cells.specs.Maps.{place_cmp}
use Rattle.ic_laws.proofs.core.CellWritten.{place_cmp_total, place_tied}
use Rattle.ic_grid.specs.Block.{Place, same_place}
use Rattle.ic_grid.specs.Contents.{Contents, remade, remade_entries, with_or_without}
use Rattle.ic_cells.proofs.ColumnLemmas.{tie as equal}

-- two places that are told to be one are one, whichever is named first; and a place is itself
pub same_turned : (p q : Place) → same_place p q ≡ same_place q p
same_turned p q = (eq_by_cmp_equiv place_cmp_total).symm p q

pub same_itself : (p : Place) → same_place p p ≡ true
same_itself p = (eq_by_cmp_equiv place_cmp_total).refl p

pub same_is : (p q : Place) → same_place p q ≡ true → p ≡ q
same_is p q e = place_tied p q (equal (place_cmp p q) e)

module _ {X : Type 0} where
  pub get_with : (m : Contents X) (p : Place) (o : Option X) (q : Place) → finite.get (with_or_without m p o) q ≡ cond (same_place q p) o (finite.get m q)
  get_with m p (Some x) q = finite.get-insert place_cmp_total m p x q
  get_with m p None q = finite.get-remove place_cmp_total m p q

  at_one : (f : Place → X → Option X) (q : Place) (t : Bool) (a c : Option X) (x : X) → (t ≡ true → a ≡ f q x) → c ≡ c → cond t a (option_and_then (f q) c) ≡ option_and_then (f q) (cond t (Some x) c)
  at_one f q true a c x h e = h refl
  at_one f q false a c x h e = refl

  found : (f : Place → X → Option X) (es : List (Place × X)) (q : Place) → finite.get (remade_entries f es) q ≡ option_and_then (f q) (finite.find place_cmp q es)
  found f [] q = finite.get-empty place_cmp q
  found f (e ∷ es) q =
      get_with (remade_entries f es) e.0 (f e.0 e.1) q ∙ ap (cond (same_place q e.0) (f e.0 e.1)) (found f es q)
      ∙ at_one f q (same_place q e.0) (f e.0 e.1) (finite.find place_cmp q es) e.1 (λ t. ap (λ p. f p e.1) (sym (same_is q e.0 t))) refl

  -- what stands at a place of remade contents
  pub get-remade : (f : Place → X → Option X) (m : Contents X) (q : Place) → finite.get (remade f m) q ≡ option_and_then (f q) (finite.get m q)
  unfolding remade
  get-remade f m q = found f (finite.entries m) q ∙ ap (option_and_then (f q)) (sym (finite.get-entries m q))

  -- what stands elsewhere stays when something is put at a place
  pub insert_away : (m : Contents X) (q : Place) (x : X) (p : Place) → same_place p q ≡ false → finite.get (finite.insert m q x) p ≡ finite.get m p
  insert_away m q x p s = finite.get-insert place_cmp_total m q x p ∙ ap (λ t. cond t (Some x) (finite.get m p)) s

  -- contents that have the same at each place are one
  pub same_contents : (m n : Contents X) → ((q : Place) → finite.get m q ≡ finite.get n q) → m ≡ n
  same_contents m n h = finite.same_map place_cmp_total place_tied m n h

  pub both_made : (f g : X → Option X) (o : Option X) → option_and_then g (option_and_then f o) ≡ option_and_then (λ x. option_and_then g (f x)) o
  both_made f g None = refl
  both_made f g (Some x) = refl

  same_made : (f g : X → Option X) (o : Option X) → ((x : X) → o ≡ Some x → f x ≡ g x) → option_and_then f o ≡ option_and_then g o
  same_made f g None h = refl
  same_made f g (Some x) h = h x refl

  -- remade twice is remade once
  pub remade_twice : (f g k : Place → X → Option X) (m : Contents X) → ((q : Place) (x : X) → finite.get m q ≡ Some x → option_and_then (g q) (f q x) ≡ k q x) → remade g (remade f m) ≡ remade k m
  remade_twice f g k m h =
      same_contents _ _ (λ q.
      get-remade g (remade f m) q ∙ ap (option_and_then (g q)) (get-remade f m q) ∙ both_made (f q) (g q) (finite.get m q)
      ∙ same_made (λ x. option_and_then (g q) (f q x)) (k q) (finite.get m q) (h q) ∙ sym (get-remade k m q))

  -- remade in two ways that agree on what stands there
  pub remade_alike : (f g : Place → X → Option X) (m : Contents X) → ((q : Place) (x : X) → finite.get m q ≡ Some x → f q x ≡ g q x) → remade f m ≡ remade g m
  remade_alike f g m h = same_contents _ _ (λ q. get-remade f m q ∙ same_made (f q) (g q) (finite.get m q) (h q) ∙ sym (get-remade g m q))
