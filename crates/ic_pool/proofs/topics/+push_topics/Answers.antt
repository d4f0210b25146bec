use Rattle.std.proofs.Common.{◌≡◌, ◌∙◌, ◌++◌, OnOk, ap, append_assoc, map, subst, sym}
use Rattle.std.specs.Prelude.{flat_map}
use Rattle.ic_laws.specs.declared.tree.Tree.TheVariants.{rolls-Apply, rolls-Let}
use Rattle.ic_pool.specs.Topics.{tree_topics}
use Rattle.ic_pool.proofs.TopicLemmas.{apply_topics, let_topics}
use Rattle.ic_pool.proofs.topics.+push_topics.Goals as goal

pub push_of_tree-returns-in_ok-push_of_values-in-Let : goal.push_of_tree-returns-in_ok-push_of_values-in-Let
push_of_tree-returns-in_ok-push_of_values-in-Let t c =
    subst (λ k. OnOk c.push_of_tree-in-Let.result (c.push_of_tree-in-Let.new.topics.items ≡ k))
    (ap (λ ts. ts ++ tree_topics c.as_ref-in-Let.result.now) c.in_ok-push_of_values-in-Let.ensures
    ∙ append_assoc c.args.topics.now.items _ (tree_topics c.as_ref-in-Let.result.now)
    ∙ ap (λ ts. c.args.topics.now.items ++ ts)
    (let_topics c.in-Let.pairs c.as_slice-in-Let.result.now c.in-Let.body c.as_ref-in-Let.result.now c.args.tree.now (c.in-Let.is ∙ sym (rolls-Let c.in-Let.pairs c.in-Let.body)) c.as_slice-in-Let.ensures c.as_ref-in-Let.ensures)) c.push_of_tree-in-Let.ensures

pub push_of_tree-returns-in_ok-push_of_tree-in-Apply : goal.push_of_tree-returns-in_ok-push_of_tree-in-Apply
push_of_tree-returns-in_ok-push_of_tree-in-Apply t c =
    let more = flat_map (λ ts. ts) (map tree_topics c.as_slice-in-Apply.result.now) in
    subst (λ k. OnOk c.push_of_all-in-Apply.result (c.push_of_all-in-Apply.new.topics.items ≡ k))
    (ap (λ ts. ts ++ more) c.in_ok-push_of_tree-in-Apply.ensures
    ∙ append_assoc c.args.topics.now.items (tree_topics c.as_ref-in-Apply.result.now) more
    ∙ ap (λ ts. c.args.topics.now.items ++ ts)
    (apply_topics c.in-Apply.x c.as_ref-in-Apply.result.now c.in-Apply.arguments c.as_slice-in-Apply.result.now c.args.tree.now (c.in-Apply.is ∙ sym (rolls-Apply c.in-Apply.x c.in-Apply.arguments)) c.as_ref-in-Apply.ensures c.as_slice-in-Apply.ensures)) c.push_of_all-in-Apply.ensures
