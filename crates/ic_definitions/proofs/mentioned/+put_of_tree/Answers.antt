use Rattle.std.proofs.Common.{◌∙◌, List, OnOk, map, subst, sym}
use Rattle.std.specs.Prelude.{flat_map}
use Rattle.std.proofs.lemmas.Result.{IfOk-weaker}
use Rattle.ic_laws.specs.Binding.{BoundPair}
use Rattle.ic_laws.specs.declared.tree.Tree.TheVariants.{rolls-Apply, rolls-Call, rolls-Fun, rolls-Let}
use Rattle.ic_pool.proofs.TopicLemmas.{apply_topics, let_topics}
use Rattle.ic_pool.specs.Topics.{tree_topics, word_topics}
use Rattle.ic_definitions.specs.Mentioned.{HasMore}
use Rattle.ic_definitions.proofs.MentionedBodies.{both_put, call_topics, fun_topics}
use Rattle.ic_definitions.proofs.mentioned.+put_of_tree.Goals as goal

pub put_of_tree-returns-in-Fun : goal.put_of_tree-returns-in-Fun
put_of_tree-returns-in-Fun t c =
    subst (λ ts. OnOk c.put_of_all.result (HasMore c.args.topics.now c.put_of_all.new.topics ts))
    (fun_topics c.in-Fun.field-0 c.in-Fun.arguments c.as_slice.result.now c.args.tree.now (c.in-Fun.is ∙ sym (rolls-Fun c.in-Fun.field-0 c.in-Fun.arguments)) c.as_slice.ensures) c.put_of_all.ensures

pub put_of_tree-returns-in_ok-put_of_word-in-Call : goal.put_of_tree-returns-in_ok-put_of_word-in-Call
put_of_tree-returns-in_ok-put_of_word-in-Call t c =
    let all = c.as_slice-in-Call.result.now in
    let more = flat_map (λ ts. ts) (map tree_topics all) in
    let w = c.as_ref-in-Call.result.now in
    subst (λ ts. OnOk c.put_of_all-in-Call.result (HasMore c.args.topics.now c.put_of_all-in-Call.new.topics ts))
    (call_topics c.in-Call.word w c.in-Call.arguments all c.args.tree.now (c.in-Call.is ∙ sym (rolls-Call c.in-Call.word c.in-Call.arguments)) c.as_ref-in-Call.ensures c.as_slice-in-Call.ensures)
    (IfOk-weaker c.put_of_all-in-Call.result _ _ (λ x put. both_put c.args.topics.now c.put_of_word-in-Call.new.topics c.put_of_all-in-Call.new.topics (word_topics w) more c.in_ok-put_of_word-in-Call.ensures put) c.put_of_all-in-Call.ensures)

pub put_of_tree-returns-in_ok-put_of_values-in-Let : goal.put_of_tree-returns-in_ok-put_of_values-in-Let
put_of_tree-returns-in_ok-put_of_values-in-Let t c =
    let pairs : List BoundPair = c.as_slice-in-Let.result.now in
    let first = flat_map (λ ts. ts) (map (λ pair. tree_topics pair.value) pairs) in
    let body = c.as_ref-in-Let.result.now in
    subst (λ ts. OnOk c.put_of_tree-in-Let.result (HasMore c.args.topics.now c.put_of_tree-in-Let.new.topics ts))
    (let_topics c.in-Let.pairs pairs c.in-Let.body body c.args.tree.now (c.in-Let.is ∙ sym (rolls-Let c.in-Let.pairs c.in-Let.body)) c.as_slice-in-Let.ensures c.as_ref-in-Let.ensures)
    (IfOk-weaker c.put_of_tree-in-Let.result _ _ (λ x put. both_put c.args.topics.now c.put_of_values.new.topics c.put_of_tree-in-Let.new.topics first (tree_topics body) c.in_ok-put_of_values-in-Let.ensures put) c.put_of_tree-in-Let.ensures)

pub put_of_tree-returns-in_ok-put_of_tree-in-Apply : goal.put_of_tree-returns-in_ok-put_of_tree-in-Apply
put_of_tree-returns-in_ok-put_of_tree-in-Apply t c =
    let all = c.as_slice-in-Apply.result.now in
    let more = flat_map (λ ts. ts) (map tree_topics all) in
    let x = c.as_ref-in-Apply.result.now in
    subst (λ ts. OnOk c.put_of_all-in-Apply.result (HasMore c.args.topics.now c.put_of_all-in-Apply.new.topics ts))
    (apply_topics c.in-Apply.x x c.in-Apply.arguments all c.args.tree.now (c.in-Apply.is ∙ sym (rolls-Apply c.in-Apply.x c.in-Apply.arguments)) c.as_ref-in-Apply.ensures c.as_slice-in-Apply.ensures)
    (IfOk-weaker c.put_of_all-in-Apply.result _ _ (λ r put. both_put c.args.topics.now c.put_of_tree-in-Apply.new.topics c.put_of_all-in-Apply.new.topics (tree_topics x) more c.in_ok-put_of_tree-in-Apply.ensures put) c.put_of_all-in-Apply.ensures)
