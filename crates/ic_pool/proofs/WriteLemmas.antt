-- What is written node by node is the code.
use Rattle.std.proofs.Common.{◌≡◌, ℕ, List, ◌++◌, sym, ap, ◌∙◌, append_assoc}
use Rattle.ic_laws.specs.Tree.{Bound}
use Rattle.ic_laws.specs.declared.tree.NameMention.{NameMention}
use Rattle.ic_laws.specs.declared.tree.SheetMention.{SheetMention}
use Rattle.ic_laws.specs.declared.tree.Tree.{out-Tree, roll-out-Tree}
use Rattle.ic_pool.specs.Bytes.{all_bytes, joined, number_bytes, text_bytes}
use Rattle.ic_pool.proofs.ByteLaws.{joined-append}
use Rattle.ic_pool.specs.Code.{numbers, texts, pairs_of, trees_of, rows_bytes, tree_code, pair_code}
use Rattle.ic_laws.proofs.binding.Again.{BoundKind, bound_node}
use Rattle.ic_pool.proofs.CodeLaws.{code-node}

abbrev pub out : Bound → BoundKind
out t = out-Tree SheetMention NameMention t

regroup : (a b c d : List ℕ) → ((a ++ b) ++ c) ++ d ≡ a ++ (b ++ (c ++ d))
regroup a b c d = simp append_assoc

-- the numbers of a node, its texts, and what stands below it
pub written : (tree : Bound) (x : BoundKind) (old k1 k2 : List ℕ) → out tree ≡ x → k1 ≡ old ++ text_bytes (numbers (out tree)) → k2 ≡ k1 ++ rows_bytes (texts (out tree)) → k2 ++ (all_bytes pair_code (pairs_of x) ++ all_bytes tree_code (trees_of x)) ≡ old ++ tree_code tree
written tree x old k1 k2 here e f =
    let below = all_bytes pair_code (pairs_of x) ++ all_bytes tree_code (trees_of x) in
    let made : tree_code (bound_node x) ≡ tree_code tree = ap (λ y. tree_code (bound_node y)) (sym here) ∙ ap tree_code (roll-out-Tree SheetMention NameMention tree) in
    ap (λ k. k ++ below) (f ∙ ap (λ k. k ++ rows_bytes (texts (out tree))) e)
    ∙ regroup old (text_bytes (numbers (out tree))) (rows_bytes (texts (out tree))) below
    ∙ ap (λ y. old ++ (text_bytes (numbers y) ++ (rows_bytes (texts y) ++ below))) here ∙ ap (λ c. old ++ c) (sym (code-node x) ∙ made)

-- numbers after numbers
pub two_written : (old k1 : List ℕ) (a b : List ℕ) → k1 ≡ old ++ joined number_bytes a → k1 ++ joined number_bytes b ≡ old ++ joined number_bytes (a ++ b)
two_written old k1 a b e =
    ap (λ k. k ++ joined number_bytes b) e ∙ append_assoc old (joined number_bytes a) (joined number_bytes b) ∙ ap (λ c. old ++ c) (sym (joined-append number_bytes a b))
