-- Spelled trees, one node at a time: induction, and what the functions of trees answer at a node.
use mathlib.Core.Path.{fun_ext}
use Rattle.std.proofs.Common.{◌≡◌, ℕ, ◌≤◌, List, [], ◌∷◌, Option, true, false, refl, sym, ap, subst, ◌∙◌, map, arith}
use Rattle.std.specs.List.{AllByRecursion}
use Rattle.ic_laws.specs.Name.{is_variable}
use Rattle.ic_laws.specs.Dialect.{DialectMeaning}
use Rattle.ic_laws.specs.Parse.{SpelledKind, node, Pair, pair_of}
use Rattle.ic_laws.specs.Token.{Token}
use Rattle.ic_laws.specs.Tree.{Spelled, sign_level, kind_level, level, is_empty_kind, is_empty, is_callable_kind, is_callable, height_step, height, brackets_step, open_brackets, spelled_names, IsKindWell, IsPairWell}
use Rattle.ic_laws.specs.Yield.{PairTokens, yield_step, pair_step, yield}
use Rattle.ic_laws.specs.declared.tree.BinarySign.{BinarySign}
use Rattle.ic_laws.specs.declared.tree.BinarySign.TheVariants as signs
use Rattle.ic_laws.specs.declared.tree.LetPair.{roll-LetPair, fold-roll-LetPair, every-LetPair, every_here-LetPair, every_held-LetPair, every_made-LetPair}
use Rattle.ic_laws.specs.declared.tree.Tree.{Tree-F, out-Tree, roll-Tree, out-roll-Tree, roll-out-Tree, map-Tree, fold-roll-Tree, ind-Tree, every-Tree, every_here-Tree, every_held-Tree, every_made-Tree}
use Rattle.ic_laws.specs.declared.tree.Tree.TheOpen.{LetPair-F}
use Rattle.ic_laws.specs.declared.tree.Tree.TheOpen as one

-- P holds of each child of a node, and Q of each pair
abbrev pub OfChildren : (Spelled → Type 0) → (Pair → Type 0) → SpelledKind → Type 0
OfChildren P Q (one.Paren x) = P x
OfChildren P Q (one.Prefix sign x) = P x
OfChildren P Q (one.Percent x) = P x
OfChildren P Q (one.Spill x) = P x
OfChildren P Q (one.Binary sign a b) = P a × P b
OfChildren P Q (one.Fun number arguments) = AllByRecursion P arguments
OfChildren P Q (one.Call word arguments) = AllByRecursion P arguments
OfChildren P Q (one.Let pairs body) = AllByRecursion Q pairs × P body
OfChildren P Q (one.Lambda parameters body) = P body
OfChildren P Q (one.Apply x arguments) = P x × AllByRecursion P arguments
OfChildren P Q kind = Unit {0}

-- a node whose children each come with a fact
abbrev Held : (Spelled → Type 0) → Type 0
Held P = (t : Spelled) × P t

abbrev HeldPair : (Pair → Type 0) → Type 0
HeldPair Q = (pair : Pair) × Q pair

abbrev HeldKind : (Spelled → Type 0) → (Pair → Type 0) → Type 0
HeldKind P Q = Tree-F (Option (List ℕ)) (List ℕ) (Held P) (HeldPair Q)

abbrev bare : (P : Spelled → Type 0) (Q : Pair → Type 0) → HeldKind P Q → SpelledKind
bare P Q y = map-Tree (Option (List ℕ)) (List ℕ) (Held P) (HeldPair Q) Spelled Pair (λ e. e.0) (λ e. e.0) y

all_held : {A : Type 0} (P : A → Type 0) (held : List ((a : A) × P a)) → AllByRecursion P (map (λ e. e.0) held)
all_held P [] = tt
all_held P (e ∷ held) = (e.1, all_held P held)

of_held : (P : Spelled → Type 0) (Q : Pair → Type 0) (y : HeldKind P Q) → OfChildren P Q (bare P Q y)
of_held P Q (one.Num x) = tt
of_held P Q (one.Str x) = tt
of_held P Q (one.Bool x) = tt
of_held P Q (one.Err x) = tt
of_held P Q (one.Reference sheet place) = tt
of_held P Q (one.Local sheet word) = tt
of_held P Q (one.Word x) = tt
of_held P Q one.Empty = tt
of_held P Q (one.Paren x) = x.1
of_held P Q (one.Prefix sign x) = x.1
of_held P Q (one.Percent x) = x.1
of_held P Q (one.Spill x) = x.1
of_held P Q (one.Binary sign a b) = (a.1, b.1)
of_held P Q (one.Fun number arguments) = all_held P arguments
of_held P Q (one.Call word arguments) = all_held P arguments
of_held P Q (one.Let pairs body) = (all_held Q pairs, body.1)
of_held P Q (one.Lambda parameters body) = body.1
of_held P Q (one.Apply x arguments) = (x.1, all_held P arguments)
of_held P Q (one.Array rows) = tt

-- what holds of a node when it holds of its children holds of every tree
pub by_nodes : (P : Spelled → Type 0) (Q : Pair → Type 0) → ((kind : SpelledKind) → OfChildren P Q kind → P (node kind)) → ((variable : List ℕ) (value : Spelled) → P value → Q (pair_of variable value)) → (t : Spelled) → P t
by_nodes P Q f g =
    ind-Tree (Option (List ℕ)) (List ℕ) P Q
    (λ x y e. subst (λ z. P (roll-Tree (Option (List ℕ)) (List ℕ) z)) e (f _ (of_held P Q y)))
    (λ x y e. subst (λ z. Q (roll-LetPair (Option (List ℕ)) (List ℕ) z)) e (g y.variable y.value.0 y.value.1))

-- the children of a node with the facts that hold of them
all_with : {A : Type 0} (P : A → Type 0) (xs : List A) → AllByRecursion P xs → (held : List ((a : A) × P a)) × (map (λ e. e.0) held ≡ xs)
all_with P [] h = ([], refl)
all_with P (x ∷ xs) h = let more = all_with P xs h.1 in ((x, h.0) ∷ more.0, ap (λ ys. x ∷ ys) more.1)

with_facts : (P : Spelled → Type 0) (Q : Pair → Type 0) (kind : SpelledKind) → OfChildren P Q kind → (y : HeldKind P Q) × (bare P Q y ≡ kind)
with_facts P Q (one.Num x) h = (one.Num x, refl)
with_facts P Q (one.Str x) h = (one.Str x, refl)
with_facts P Q (one.Bool x) h = (one.Bool x, refl)
with_facts P Q (one.Err x) h = (one.Err x, refl)
with_facts P Q (one.Reference sheet place) h = (one.Reference sheet place, refl)
with_facts P Q (one.Local sheet word) h = (one.Local sheet word, refl)
with_facts P Q (one.Word x) h = (one.Word x, refl)
with_facts P Q one.Empty h = (one.Empty, refl)
with_facts P Q (one.Paren x) h = (one.Paren (x, h), refl)
with_facts P Q (one.Prefix sign x) h = (one.Prefix sign (x, h), refl)
with_facts P Q (one.Percent x) h = (one.Percent (x, h), refl)
with_facts P Q (one.Spill x) h = (one.Spill (x, h), refl)
with_facts P Q (one.Binary sign a b) h = (one.Binary sign (a, h.0) (b, h.1), refl)
with_facts P Q (one.Fun number arguments) h =
    let held = all_with P arguments h in (one.Fun number held.0, ap (λ (xs : List Spelled). let k : SpelledKind = one.Fun number xs in k) held.1)
with_facts P Q (one.Call word arguments) h =
    let held = all_with P arguments h in (one.Call word held.0, ap (λ (xs : List Spelled). let k : SpelledKind = one.Call word xs in k) held.1)
with_facts P Q (one.Let pairs body) h =
    let held = all_with Q pairs h.0 in (one.Let held.0 (body, h.1), ap (λ (xs : List Pair). let k : SpelledKind = one.Let xs body in k) held.1)
with_facts P Q (one.Lambda parameters body) h = (one.Lambda parameters (body, h), refl)
with_facts P Q (one.Apply x arguments) h =
    let held = all_with P arguments h.1 in (one.Apply (x, h.0) held.0, ap (λ (xs : List Spelled). let k : SpelledKind = one.Apply x xs in k) held.1)
with_facts P Q (one.Array rows) h = (one.Array rows, refl)

-- any condition on nodes and pairs that holds of all of a tree holds here and below, and of what is made of such
module _ (L : SpelledKind → Type 0) (M : LetPair-F (Option (List ℕ)) (List ℕ) Spelled Pair → Type 0) where
  abbrev pub Every : Spelled → Type 0
  Every t = every-Tree (Option (List ℕ)) (List ℕ) L M t

  abbrev pub EveryPair : Pair → Type 0
  EveryPair pair = every-LetPair (Option (List ℕ)) (List ℕ) L M pair

  pub here_of : (kind : SpelledKind) → Every (node kind) → L kind
  here_of kind h = subst L (out-roll-Tree (Option (List ℕ)) (List ℕ) kind) (every_here-Tree (Option (List ℕ)) (List ℕ) L M (node kind) h)

  pub below_of : (kind : SpelledKind) → Every (node kind) → OfChildren Every EveryPair kind
  below_of kind h =
      let held = every_held-Tree (Option (List ℕ)) (List ℕ) L M (node kind) h in
      subst (OfChildren Every EveryPair) (held.1 ∙ out-roll-Tree (Option (List ℕ)) (List ℕ) kind) (of_held Every EveryPair held.0)

  pub made_of : (kind : SpelledKind) → L kind → OfChildren Every EveryPair kind → Every (node kind)
  made_of kind here below =
      let held = with_facts Every EveryPair kind below in
      every_made-Tree (Option (List ℕ)) (List ℕ) L M kind held.0 held.1 here

  pub value_of : (pair : Pair) → EveryPair pair → Every pair.value
  value_of pair h =
      let held = every_held-LetPair (Option (List ℕ)) (List ℕ) L M pair h in
      subst Every (ap (λ (p : LetPair-F (Option (List ℕ)) (List ℕ) Spelled Pair). p.value) held.1) held.0.value.1

-- each node and each pair of a tree is well-formed
abbrev pub WellKind : DialectMeaning → SpelledKind → Type 0
WellKind d = IsKindWell spelled_names d.let_fn d.lambda_fn

abbrev pub AllWell : DialectMeaning → Spelled → Type 0
AllWell d t = every-Tree (Option (List ℕ)) (List ℕ) (WellKind d) IsPairWell t

abbrev pub PairAllWell : DialectMeaning → Pair → Type 0
PairAllWell d pair = every-LetPair (Option (List ℕ)) (List ℕ) (WellKind d) IsPairWell pair

pub well_here : (d : DialectMeaning) (kind : SpelledKind) → AllWell d (node kind) → WellKind d kind
well_here d kind h = here_of (WellKind d) IsPairWell kind h

pub well_below : (d : DialectMeaning) (kind : SpelledKind) → AllWell d (node kind) → OfChildren (AllWell d) (PairAllWell d) kind
well_below d kind h = below_of (WellKind d) IsPairWell kind h

pub well_made : (d : DialectMeaning) (kind : SpelledKind) → WellKind d kind → OfChildren (AllWell d) (PairAllWell d) kind → AllWell d (node kind)
well_made d kind here below = made_of (WellKind d) IsPairWell kind here below

-- the tokens of a pair
abbrev pub pair_tokens : DialectMeaning → Pair → PairTokens
pair_tokens d pair = record { variable = pair.variable; value = yield d pair.value }

-- a node with the tokens of each child in its place, and with a number for each child
abbrev pub with_tokens : DialectMeaning → SpelledKind → Tree-F (Option (List ℕ)) (List ℕ) (List Token) PairTokens
with_tokens d kind = map-Tree (Option (List ℕ)) (List ℕ) Spelled Pair (List Token) PairTokens (yield d) (pair_tokens d) kind

abbrev pub with_numbers : (Spelled → ℕ) → SpelledKind → Tree-F (Option (List ℕ)) (List ℕ) ℕ ℕ
with_numbers count kind = map-Tree (Option (List ℕ)) (List ℕ) Spelled Pair ℕ ℕ count (λ pair. count pair.value) kind

-- what the functions of trees answer at a node
pub yield-node : (d : DialectMeaning) (kind : SpelledKind) → yield d (node kind) ≡ yield_step d (with_tokens d kind)
yield-node d kind =
    fold-roll-Tree (Option (List ℕ)) (List ℕ) (List Token) PairTokens (yield_step d) pair_step kind
    ∙ ap (λ (g : Pair → PairTokens). yield_step d (map-Tree (Option (List ℕ)) (List ℕ) Spelled Pair (List Token) PairTokens (yield d) g kind))
    (fun_ext (λ pair. fold-roll-LetPair (Option (List ℕ)) (List ℕ) (List Token) PairTokens (yield_step d) pair_step (record { variable = pair.variable; value = pair.value })))

pub height-node : (kind : SpelledKind) → height (node kind) ≡ height_step (with_numbers height kind)
height-node kind =
    fold-roll-Tree (Option (List ℕ)) (List ℕ) ℕ ℕ height_step (λ pair. pair.value) kind
    ∙ ap (λ (g : Pair → ℕ). height_step (map-Tree (Option (List ℕ)) (List ℕ) Spelled Pair ℕ ℕ height g kind))
    (fun_ext (λ pair. fold-roll-LetPair (Option (List ℕ)) (List ℕ) ℕ ℕ height_step (λ pair. pair.value) (record { variable = pair.variable; value = pair.value })))

pub brackets-node : (kind : SpelledKind) → open_brackets (node kind) ≡ brackets_step (with_numbers open_brackets kind)
brackets-node kind =
    fold-roll-Tree (Option (List ℕ)) (List ℕ) ℕ ℕ brackets_step (λ pair. pair.value) kind
    ∙ ap (λ (g : Pair → ℕ). brackets_step (map-Tree (Option (List ℕ)) (List ℕ) Spelled Pair ℕ ℕ open_brackets g kind))
    (fun_ext (λ pair. fold-roll-LetPair (Option (List ℕ)) (List ℕ) ℕ ℕ brackets_step (λ pair. pair.value) (record { variable = pair.variable; value = pair.value })))

pub level-node : (kind : SpelledKind) → level (node kind) ≡ kind_level kind
level-node kind = ap (kind_level {S = Option (List ℕ)} {W = List ℕ}) (out-roll-Tree (Option (List ℕ)) (List ℕ) kind)

pub empty-node : (kind : SpelledKind) → is_empty (node kind) ≡ is_empty_kind kind
empty-node kind = ap (is_empty_kind {S = Option (List ℕ)} {W = List ℕ}) (out-roll-Tree (Option (List ℕ)) (List ℕ) kind)

pub callable-node : (kind : SpelledKind) → is_callable (node kind) ≡ is_callable_kind kind
callable-node kind = ap (is_callable_kind {S = Option (List ℕ)} {W = List ℕ}) (out-roll-Tree (Option (List ℕ)) (List ℕ) kind)

-- each tree is the tree of a node
pub node_of : (t : Spelled) → (kind : SpelledKind) × (node kind ≡ t)
node_of t = (out-Tree (Option (List ℕ)) (List ℕ) t, roll-out-Tree (Option (List ℕ)) (List ℕ) t)

-- a level is at least 1, and so is a height
pub level_positive : (t : Spelled) → 1 ≤ level t
level_positive t = at_kind (out-Tree (Option (List ℕ)) (List ℕ) t)
  where
    at_sign : (sign : BinarySign) → 1 ≤ sign_level sign
    at_sign signs.Equal = omega arith
    at_sign signs.Unequal = omega arith
    at_sign signs.Less = omega arith
    at_sign signs.Greater = omega arith
    at_sign signs.AtMost = omega arith
    at_sign signs.AtLeast = omega arith
    at_sign signs.Join = omega arith
    at_sign signs.Plus = omega arith
    at_sign signs.Minus = omega arith
    at_sign signs.Times = omega arith
    at_sign signs.Over = omega arith
    at_sign signs.Power = omega arith

    at_kind : (kind : SpelledKind) → 1 ≤ kind_level kind
    at_kind (one.Binary sign a b) = at_sign sign
    at_kind (one.Prefix sign x) = omega arith
    at_kind (one.Percent x) = omega arith
    at_kind (one.Spill x) = omega arith
    at_kind (one.Apply x arguments) = omega arith
    at_kind kind = omega arith

pub height_positive : (t : Spelled) → 1 ≤ height t
height_positive t =
    let at = node_of t in
    subst (λ (u : Spelled). 1 ≤ height u) at.1 (subst (λ (n : ℕ). 1 ≤ n) (sym (height-node at.0)) (at_kind at.0))
  where
    at_kind : (kind : SpelledKind) → 1 ≤ height_step (with_numbers height kind)
    at_kind (one.Paren x) = omega arith
    at_kind (one.Prefix sign x) = omega arith
    at_kind (one.Percent x) = omega arith
    at_kind (one.Spill x) = omega arith
    at_kind (one.Binary sign a b) = omega arith
    at_kind (one.Fun number arguments) = omega arith
    at_kind (one.Call word arguments) = omega arith
    at_kind (one.Let pairs body) = omega arith
    at_kind (one.Lambda parameters body) = omega arith
    at_kind (one.Apply x arguments) = omega arith
    at_kind kind = omega arith

-- an argument that is left out has no tokens
pub empty_yields : (d : DialectMeaning) (t : Spelled) → is_empty t ≡ true → yield d t ≡ []
empty_yields d t h =
    let at = node_of t in
    subst (λ (u : Spelled). yield d u ≡ []) at.1
    (yield-node d at.0 ∙ at_kind at.0 (sym (empty-node at.0) ∙ subst (λ (u : Spelled). is_empty u ≡ true) (sym at.1) h))
  where
    at_kind : (kind : SpelledKind) → is_empty_kind kind ≡ true → yield_step d (with_tokens d kind) ≡ []
    at_kind one.Empty e = refl
    at_kind kind e = cc

-- and is the tree of that node
pub empty_is : (t : Spelled) → is_empty t ≡ true → t ≡ node one.Empty
empty_is t h = let at = node_of t in sym at.1 ∙ ap node (at_kind at.0 (sym (empty-node at.0) ∙ subst (λ (u : Spelled). is_empty u ≡ true) (sym at.1) h))
  where
    at_kind : (kind : SpelledKind) → is_empty_kind kind ≡ true → kind ≡ one.Empty
    at_kind one.Empty e = refl
    at_kind kind e = cc

-- the same of a pair
pub pair_here : (d : DialectMeaning) (pair : Pair) → PairAllWell d pair → (is_variable pair.variable ≡ true) × (is_empty pair.value ≡ false)
pair_here d pair h = let here = every_here-LetPair (Option (List ℕ)) (List ℕ) (WellKind d) IsPairWell pair h in (here.variable, here.value)

pub pair_below : (d : DialectMeaning) (pair : Pair) → PairAllWell d pair → AllWell d pair.value
pair_below d pair h = value_of (WellKind d) IsPairWell pair h

pub pair_made : (d : DialectMeaning) (variable : List ℕ) (value : Spelled) → is_variable variable ≡ true → is_empty value ≡ false → AllWell d value → PairAllWell d (pair_of variable value)
pair_made d variable value good there well =
    every_made-LetPair (Option (List ℕ)) (List ℕ) (WellKind d) IsPairWell (record { variable = variable; value = value })
    (record { variable = variable; value = (value, well) }) refl (record { variable = good; value = there })
