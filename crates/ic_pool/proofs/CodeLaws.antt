-- Equal codes are codes of equal formulas.
use Rattle.std.proofs.Common.{◌≡◌, ℕ, List, [], ◌∷◌, ◌++◌, refl, sym, ap, ap₂, subst, ◌∙◌, map, arith, append_assoc}
use Rattle.std.specs.List.{AllByRecursion}
use Rattle.ic_laws.proofs.binding.Again.{BoundKind, bound_node}
use Rattle.ic_laws.specs.Binding.{BoundPair, bound_pair_of}
use Rattle.ic_laws.specs.Tree.{Bound}
use Rattle.ic_laws.specs.declared.tree.Formula.TheVariants as formulas
use Rattle.ic_laws.specs.declared.tree.LetPair.{roll-LetPair, out-LetPair, roll-out-LetPair, fold-roll-LetPair}
use Rattle.ic_laws.specs.declared.tree.NameMention.{NameMention}
use Rattle.ic_laws.specs.declared.tree.SheetMention.{SheetMention}
use Rattle.ic_laws.specs.declared.tree.Tree.{out-Tree, roll-out-Tree, map-Tree, fold-roll-Tree, ind-Tree}
use Rattle.ic_laws.specs.declared.tree.Tree.TheOpen as one
use Rattle.ic_pool.specs.Bytes.{all_bytes, text_bytes}
use Rattle.ic_pool.proofs.ByteLaws.{Ends, all_bytes-map, all_end, number_ends, rows_end, text_ends}
use Rattle.ic_pool.specs.Code.{Node, numbers, texts, pairs_of, trees_of, rows_bytes, code_step, pair_step, tree_code, pair_code, CodesDetermine}
use Rattle.ic_pool.proofs.Rebuilt.{same_parts}

-- ---- the parts of a node whose children are mapped

module _ {A B C D : Type 0} (f : A → C) (g : B → D) where
  abbrev pub mapped : Node A B → Node C D
  mapped x = map-Tree SheetMention NameMention A B C D f g x

  pub numbers-map : (x : Node A B) → numbers (mapped x) ≡ numbers x
  numbers-map (one.Num amount) = refl
  numbers-map (one.Str text) = refl
  numbers-map (one.Bool value) = refl
  numbers-map (one.Err number) = refl
  numbers-map (one.Reference sheet place) = refl
  numbers-map (one.Local sheet word) = refl
  numbers-map (one.Word word) = refl
  numbers-map one.Empty = refl
  numbers-map (one.Paren x) = refl
  numbers-map (one.Prefix sign x) = refl
  numbers-map (one.Percent x) = refl
  numbers-map (one.Spill x) = refl
  numbers-map (one.Binary sign a b) = refl
  numbers-map (one.Fun number arguments) = refl
  numbers-map (one.Call word arguments) = refl
  numbers-map (one.Let pairs body) = refl
  numbers-map (one.Lambda parameters body) = refl
  numbers-map (one.Apply x arguments) = refl
  numbers-map (one.Array rows) = refl

  pub texts-map : (x : Node A B) → texts (mapped x) ≡ texts x
  texts-map (one.Num amount) = refl
  texts-map (one.Str text) = refl
  texts-map (one.Bool value) = refl
  texts-map (one.Err number) = refl
  texts-map (one.Reference sheet place) = refl
  texts-map (one.Local sheet word) = refl
  texts-map (one.Word word) = refl
  texts-map one.Empty = refl
  texts-map (one.Paren x) = refl
  texts-map (one.Prefix sign x) = refl
  texts-map (one.Percent x) = refl
  texts-map (one.Spill x) = refl
  texts-map (one.Binary sign a b) = refl
  texts-map (one.Fun number arguments) = refl
  texts-map (one.Call word arguments) = refl
  texts-map (one.Let pairs body) = refl
  texts-map (one.Lambda parameters body) = refl
  texts-map (one.Apply x arguments) = refl
  texts-map (one.Array rows) = refl

  pub pairs-map : (x : Node A B) → pairs_of (mapped x) ≡ map g (pairs_of x)
  pairs-map (one.Num amount) = refl
  pairs-map (one.Str text) = refl
  pairs-map (one.Bool value) = refl
  pairs-map (one.Err number) = refl
  pairs-map (one.Reference sheet place) = refl
  pairs-map (one.Local sheet word) = refl
  pairs-map (one.Word word) = refl
  pairs-map one.Empty = refl
  pairs-map (one.Paren x) = refl
  pairs-map (one.Prefix sign x) = refl
  pairs-map (one.Percent x) = refl
  pairs-map (one.Spill x) = refl
  pairs-map (one.Binary sign a b) = refl
  pairs-map (one.Fun number arguments) = refl
  pairs-map (one.Call word arguments) = refl
  pairs-map (one.Let pairs body) = refl
  pairs-map (one.Lambda parameters body) = refl
  pairs-map (one.Apply x arguments) = refl
  pairs-map (one.Array rows) = refl

  pub trees-map : (x : Node A B) → trees_of (mapped x) ≡ map f (trees_of x)
  trees-map (one.Num amount) = refl
  trees-map (one.Str text) = refl
  trees-map (one.Bool value) = refl
  trees-map (one.Err number) = refl
  trees-map (one.Reference sheet place) = refl
  trees-map (one.Local sheet word) = refl
  trees-map (one.Word word) = refl
  trees-map one.Empty = refl
  trees-map (one.Paren x) = refl
  trees-map (one.Prefix sign x) = refl
  trees-map (one.Percent x) = refl
  trees-map (one.Spill x) = refl
  trees-map (one.Binary sign a b) = refl
  trees-map (one.Fun number arguments) = refl
  trees-map (one.Call word arguments) = refl
  trees-map (one.Let pairs body) = refl
  trees-map (one.Lambda parameters body) = refl
  trees-map (one.Apply x arguments) = refl
  trees-map (one.Array rows) = refl

abbrev pub parts_code : BoundKind → List ℕ
parts_code x = text_bytes (numbers x) ++ (rows_bytes (texts x) ++ (all_bytes pair_code (pairs_of x) ++ all_bytes tree_code (trees_of x)))

pub code-node : (x : BoundKind) → tree_code (bound_node x) ≡ parts_code x
code-node x =
    fold-roll-Tree SheetMention NameMention (List ℕ) (List ℕ) code_step pair_step x
    ∙ ap₂ ◌++◌ (ap text_bytes (numbers-map tree_code pair_code x))
    (ap₂ ◌++◌ (ap rows_bytes (texts-map tree_code pair_code x))
    (ap₂ ◌++◌ (ap (all_bytes (λ c. c)) (pairs-map tree_code pair_code x) ∙ all_bytes-map pair_code (pairs_of x))
    (ap (all_bytes (λ c. c)) (trees-map tree_code pair_code x) ∙ all_bytes-map tree_code (trees_of x))))

code-pair : (variable : List ℕ) (value : Bound) → pair_code (bound_pair_of variable value) ≡ text_bytes variable ++ tree_code value
code-pair variable value = fold-roll-LetPair SheetMention NameMention (List ℕ) (List ℕ) code_step pair_step (record { variable = variable; value = value })

-- ---- induction on formulas, by the parts of nodes

all_held : {A : Type 0} (P : A → Type 0) (held : List ((t : A) × P t)) → AllByRecursion P (map (λ e. e.0) held)
all_held P [] = tt
all_held P (e ∷ held) = (e.1, all_held P held)

pub by_parts : (P : Bound → Type 0) (Q : BoundPair → Type 0) → ((x : BoundKind) → AllByRecursion P (trees_of x) → AllByRecursion Q (pairs_of x) → P (bound_node x)) → ((variable : List ℕ) (value : Bound) → P value → Q (bound_pair_of variable value)) → (t : Bound) → P t
by_parts P Q f g =
    ind-Tree SheetMention NameMention P Q
    (λ x y e. subst (λ z. P (bound_node z)) e
    (f (mapped (λ (e : (t : Bound) × P t). e.0) (λ (e : (p : BoundPair) × Q p). e.0) y)
    (subst (AllByRecursion P) (sym (trees-map (λ (e : (t : Bound) × P t). e.0) (λ (e : (p : BoundPair) × Q p). e.0) y)) (all_held P (trees_of y)))
    (subst (AllByRecursion Q) (sym (pairs-map (λ (e : (t : Bound) × P t). e.0) (λ (e : (p : BoundPair) × Q p). e.0) y)) (all_held Q (pairs_of y)))))
    (λ x y e. subst (λ z. Q (roll-LetPair SheetMention NameMention z)) e (g y.variable y.value.0 y.value.1))

regroup : (a b c d r : List ℕ) → (a ++ (b ++ (c ++ d))) ++ r ≡ a ++ (b ++ (c ++ (d ++ r)))
regroup a b c d r = simp append_assoc

node_ends : (x y : BoundKind) (r s : List ℕ) → AllByRecursion (Ends tree_code) (trees_of x) → AllByRecursion (Ends pair_code) (pairs_of x) → parts_code x ++ r ≡ parts_code y ++ s → (x ≡ y) × (r ≡ s)
node_ends x y r s trees pairs e =
    let moved = sym (regroup (text_bytes (numbers x)) (rows_bytes (texts x)) (all_bytes pair_code (pairs_of x)) (all_bytes tree_code (trees_of x)) r) ∙ e
    ∙ regroup (text_bytes (numbers y)) (rows_bytes (texts y)) (all_bytes pair_code (pairs_of y)) (all_bytes tree_code (trees_of y)) s in
    let a = text_ends (numbers x) (numbers y) _ _ moved in
    let b = rows_end (texts x) (texts y) _ _ a.1 in
    let c = all_end pair_code (pairs_of x) pairs (pairs_of y) _ _ b.1 in
    let d = all_end tree_code (trees_of x) trees (trees_of y) r s c.1 in
    (same_parts x y a.0 b.0 c.0 d.0, d.1)

pair_ends : (variable : List ℕ) (value : Bound) → Ends tree_code value → Ends pair_code (bound_pair_of variable value)
pair_ends variable value h q r s e =
    let out = out-LetPair SheetMention NameMention q in
    let back : bound_pair_of out.variable out.value ≡ q = roll-out-LetPair SheetMention NameMention q in
    let moved = sym (append_assoc (text_bytes variable) (tree_code value) r) ∙ sym (ap (λ c. c ++ r) (code-pair variable value)) ∙ e
    ∙ sym (ap (λ z. pair_code z ++ s) back) ∙ ap (λ c. c ++ s) (code-pair out.variable out.value) ∙ append_assoc (text_bytes out.variable) (tree_code out.value) s in
    let a = text_ends variable out.variable _ _ moved in
    let b = h out.value r s a.1 in
    (ap₂ bound_pair_of a.0 b.0 ∙ back, b.1)

pub ends : (t : Bound) → Ends tree_code t
ends =
    by_parts (Ends tree_code) (Ends pair_code)
    (λ x trees pairs b r s e.
    let out = out-Tree SheetMention NameMention b in
    let back : bound_node out ≡ b = roll-out-Tree SheetMention NameMention b in
    let node = node_ends x out r s trees pairs
    (sym (ap (λ c. c ++ r) (code-node x)) ∙ e ∙ sym (ap (λ z. tree_code z ++ s) back) ∙ ap (λ c. c ++ s) (code-node out)) in
    (ap bound_node node.0 ∙ back, node.1))
    pair_ends

pub code_determines : CodesDetermine
code_determines (formulas.Tree t) (formulas.Tree u) e =
    let codes = (number_ends 0 0 (tree_code t) (tree_code u) e).1 in
    ap (λ x. formulas.Tree x) (ends t u [] [] (ap (λ c. c ++ []) codes)).0
code_determines (formulas.Raw a) (formulas.Raw b) e =
    let codes = (number_ends 1 1 (text_bytes a) (text_bytes b) e).1 in
    ap (λ x. formulas.Raw x) (text_ends a b [] [] (ap (λ c. c ++ []) codes)).0
code_determines (formulas.Tree t) (formulas.Raw b) e = let kinds = (number_ends 0 1 (tree_code t) (text_bytes b) e).0 in absurd (omega arith)
code_determines (formulas.Raw a) (formulas.Tree u) e = let kinds = (number_ends 1 0 (text_bytes a) (tree_code u) e).0 in absurd (omega arith)
