-- The greatest height of a list that grows at its end.
use Rattle.std.proofs.Common.{◌≡◌, ℕ, ◌+◌, max, List, [], ◌∷◌, ◌++◌, map, arith, sym, ap, subst}
use Rattle.ic_laws.specs.Greatest.{greatest}
use Rattle.ic_laws.specs.Parse.{node}
use Rattle.ic_laws.specs.Tree.{Spelled, height}
use Rattle.ic_laws.specs.declared.tree.Tree.TheOpen as one
use Rattle.ic_laws.proofs.parsing.Nodes.{height-node}

pub greatest_push : {A : Type 0} (f : A → ℕ) (xs : List A) (x : A) → greatest (map f (xs ++ x ∷ [])) ≡ max (greatest (map f xs)) (f x)
greatest_push f [] x = omega arith
greatest_push f (y ∷ ys) x = omega (arith, greatest_push f ys x)

-- where one is added, the greater of the greatest before and its own height
pub pushed_greatest : {A : Type 0} (f : A → ℕ) (xs new : List A) (x same : A) (highest nodes most : ℕ) → new ≡ xs ++ same ∷ [] → same ≡ x → highest ≡ greatest (map f xs) → nodes ≡ f x → most ≡ max highest nodes → most ≡ greatest (map f new)
pushed_greatest f xs new x same highest nodes most is eq high node more =
    subst (λ ys. most ≡ greatest (map f ys)) (sym is) (omega (arith, greatest_push f xs same, ap f eq))

-- the height of a tree that is called, from those of its parts
pub apply_height : (t u : Spelled) (items arguments : List Spelled) (nodes highest below : ℕ) → t ≡ u → items ≡ arguments → nodes ≡ height u → highest ≡ greatest (map height arguments) → below ≡ max nodes highest → height (node (one.Apply t items)) ≡ below + 1
apply_height t u items arguments nodes highest below same all node high most =
    omega (arith, height-node (one.Apply t items), ap (λ (x : Spelled). height x) same, ap (λ (xs : List Spelled). greatest (map height xs)) all)
