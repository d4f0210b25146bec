use Rattle.std.proofs.Common.{◌≡◌, ◌∙◌, ◌++◌, OnOk, ap, append_assoc, map, subst, sym}
use Rattle.std.specs.Prelude.{flat_map}
use Rattle.ic_laws.specs.declared.tree.Tree.TheVariants.{rolls-Apply, rolls-Let}
use Rattle.ic_dump.specs.Passing.{unfound_in}
use Rattle.ic_dump.proofs.UnfoundLemmas.{apply_unfound, let_unfound}
use Rattle.ic_dump.proofs.unfound.+push_unfound.Goals as goal

pub push_unfound-returns-in_ok-push_values-in-Let : goal.push_unfound-returns-in_ok-push_values-in-Let
push_unfound-returns-in_ok-push_values-in-Let t c =
    let names = map (λ name. name.now) c.args.names.now.items in
    subst (λ k. OnOk c.push_unfound-in-Let.result (map (λ name. name.now) c.push_unfound-in-Let.new.names.items ≡ k))
    (ap (λ ns. ns ++ unfound_in c.as_ref-in-Let.result.now) c.in_ok-push_values-in-Let.ensures
    ∙ append_assoc names _ (unfound_in c.as_ref-in-Let.result.now)
    ∙ ap (λ ns. names ++ ns)
    (let_unfound c.in-Let.pairs c.as_slice-in-Let.result.now c.in-Let.body c.as_ref-in-Let.result.now c.args.tree.now (c.in-Let.is ∙ sym (rolls-Let c.in-Let.pairs c.in-Let.body)) c.as_slice-in-Let.ensures c.as_ref-in-Let.ensures)) c.push_unfound-in-Let.ensures

pub push_unfound-returns-in_ok-push_unfound-in-Apply : goal.push_unfound-returns-in_ok-push_unfound-in-Apply
push_unfound-returns-in_ok-push_unfound-in-Apply t c =
    let names = map (λ name. name.now) c.args.names.now.items in
    let more = flat_map (λ ns. ns) (map unfound_in c.as_slice-in-Apply.result.now) in
    subst (λ k. OnOk c.push_all-in-Apply.result (map (λ name. name.now) c.push_all-in-Apply.new.names.items ≡ k))
    (ap (λ ns. ns ++ more) c.in_ok-push_unfound-in-Apply.ensures
    ∙ append_assoc names (unfound_in c.as_ref-in-Apply.result.now) more
    ∙ ap (λ ns. names ++ ns)
    (apply_unfound c.in-Apply.x c.as_ref-in-Apply.result.now c.in-Apply.arguments c.as_slice-in-Apply.result.now c.args.tree.now (c.in-Apply.is ∙ sym (rolls-Apply c.in-Apply.x c.in-Apply.arguments)) c.as_ref-in-Apply.ensures c.as_slice-in-Apply.ensures)) c.push_all-in-Apply.ensures
