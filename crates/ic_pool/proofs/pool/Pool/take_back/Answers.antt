use Rattle.std.proofs.Common.{◌≡◌, ◌∙◌, true, ap, arith, rules, sym, subst}
use Rattle.ic_pool.specs.Pool.{EndsWithNew, PoolState, dangling_count}
use Rattle.ic_pool.proofs.BackLemmas.{look_up_back}
use Rattle.ic_pool.proofs.IndexLemmas.{dangling_count-push}
use Rattle.ic_pool.proofs.MentionedLemmas.{knows_back}
use Rattle.ic_pool.proofs.pool.Pool.take_back.Goals as goal

pub overflow_sub-self : goal.overflow_sub-self
overflow_sub-self c =
    let counted = c.self.invariant.dangles ∙ ap dangling_count c.in-Some.ensures.items ∙ dangling_count-push c.pop.new.self.items c.in-Some.formula in
    omega (arith, counted, c.dangling_weight.ensures.value)

pub invariant_of-self : goal.invariant_of-self
invariant_of-self c =
    let ends = subst (λ (s : PoolState). EndsWithNew c.args.key.now s.formulas) (sym c.self.view_is) c.requires.last in
    let whole : c.self.inside.is_whole ≡ true = ap (λ (s : PoolState). s.is_whole) c.self.view_is ∙ c.requires.whole in
    let counted = c.self.invariant.dangles ∙ ap dangling_count c.in-Some.ensures.items ∙ dangling_count-push c.pop.new.self.items c.in-Some.formula in
    record {
      look_up = look_up_back c.self.inside.index c.take_out.new.self c.self.inside.formulas.items c.pop.new.self.items c.in-Some.formula c.in-Some.ensures.items c.args.key.now ends c.len.result (search rules) c.take_out.ensures c.self.inside.is_whole c.self.inside.knows_rest
          c.self.inside.late c.self.invariant.look_up whole;
      mentioned = λ k. knows_back c.self.inside.mentions c.self.inside.formulas.items c.pop.new.self.items c.in-Some.formula c.in-Some.ensures.items (c.self.invariant.mentioned k);
      dangles = omega (arith, counted, c.dangling_weight.ensures.value);
      last_is_first = λ at e. cc;
    }
