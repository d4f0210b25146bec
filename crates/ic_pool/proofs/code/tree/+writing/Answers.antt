use Rattle.std.proofs.Common.{◌≡◌, refl, subst, OnOk}
use Rattle.ic_pool.proofs.WriteLemmas.{out, written}
use Rattle.ic_pool.proofs.code.tree.+writing.Goals as goal

pub write_tree-returns : goal.write_tree-returns
write_tree-returns t c =
    subst (λ k. OnOk c.write_children.result (c.write_children.new.key ≡ k))
    (written c.args.tree.now (out c.args.tree.now) _ _ _ refl c.in_ok-write_node.ensures c.in_ok-write_texts.ensures) c.write_children.ensures
