-- LET that was only read, made of its parts.
use Rattle.std.proofs.Common.{◌≡◌, ◌≢◌, ℕ, ◌+◌, max, Bool, true, false, if◌then◌else◌, List, [], ◌∷◌, map, length, nat_le, Option, Some, None, option_map, arith, refl, ap, ap₂, ◌∙◌}
use Rattle.ic_laws.specs.Binding.{BoundPair}
use Rattle.ic_laws.specs.Greatest.{greatest}
use Rattle.ic_laws.specs.Parse.{Pair, made, node}
use Rattle.ic_laws.specs.Token.{Token}
use Rattle.ic_laws.specs.Tree.{Bound, Spelled, height}
use Rattle.ic_laws.specs.declared.tree.Tree.TheOpen as one
use Rattle.ic_laws.proofs.binding.Again.{bound_node, spelled-node}
use Rattle.ic_laws.proofs.parsing.Nodes.{height-node}
use Rattle.ic_tree.specs.Turned.{let_made, value_height}
use Rattle.ic_tree.specs.Typed.{as_typed, no_text, own_name, pair_as_typed}

-- the height of a LET that was only read, from those of its parts
pub let_height : (ps : List BoundPair) (body : Bound) (pairs : List Pair) (u : Spelled) (nodes highest below : ℕ) → map pair_as_typed ps ≡ pairs → as_typed body ≡ u → nodes ≡ height u → highest ≡ greatest (map value_height pairs) → below ≡ max highest nodes → height (as_typed (bound_node (one.Let ps body))) ≡ below + 1
let_height ps body pairs u nodes highest below all same node_is high most =
    let whole : height (as_typed (bound_node (one.Let ps body))) ≡ max (greatest (map value_height (map pair_as_typed ps))) (height (as_typed body)) + 1 =
    ap (λ (t : Spelled). height t) (spelled-node no_text own_name (one.Let ps body)) ∙ height-node (one.Let (map pair_as_typed ps) (as_typed body)) in
    omega (arith, whole, ap (λ (x : Spelled). height x) same, ap (λ (xs : List Pair). greatest (map value_height xs)) all)

-- a tree that is low enough is taken with what is left
taken_is : (most : ℕ) (t : Spelled) (rest : List Token) → option_map {U = Spelled × List Token} (λ u. (u, rest)) (if nat_le (height t) most then Some t else None) ≡ (if nat_le (height t) most then Some (t, rest) else None)
taken_is most t rest = go (nat_le (height t) most)
  where
    go : (b : Bool) → option_map {U = Spelled × List Token} (λ u. (u, rest)) (if b then Some t else None) ≡ (if b then Some (t, rest) else None)
    go true = refl
    go false = refl

-- LET with a pair is what the definition makes
pub let_taken : (most : ℕ) (ps slice : List BoundPair) (body : Bound) (pairs : List Pair) (u : Spelled) (r : Option Spelled) (rest : List Token) → map pair_as_typed ps ≡ pairs → as_typed body ≡ u → slice ≡ ps → length slice ≢ 0
    → r ≡ (if nat_le (height (as_typed (bound_node (one.Let ps body)))) most then Some (as_typed (bound_node (one.Let ps body))) else None) → option_map {U = Spelled × List Token} (λ t. (t, rest)) r ≡ let_made most pairs u rest
let_taken most ps slice body pairs u r rest all same is some got =
    ap (λ (o : Option Spelled). option_map {U = Spelled × List Token} (λ t. (t, rest)) o) (got ∙ ap (λ (t : Spelled). if nat_le (height t) most then Some t else None) (spelled-node no_text own_name (one.Let ps body)))
    ∙ (taken_is most (node (one.Let (map pair_as_typed ps) (as_typed body))) rest
    ∙ (made_let ps (λ e. some (ap (λ (xs : List BoundPair). length xs) is ∙ e)) ∙ ap₂ (λ (xs : List Pair) (t : Spelled). let_made most xs t rest) all same))
  where
    made_let : (qs : List BoundPair) → length qs ≢ 0 → made most (one.Let (map pair_as_typed qs) (as_typed body)) rest ≡ let_made most (map pair_as_typed qs) (as_typed body) rest
    made_let [] ne = absurd (ne refl)
    made_let (q ∷ qs) ne = refl
