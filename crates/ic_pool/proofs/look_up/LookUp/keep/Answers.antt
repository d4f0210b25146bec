use Rattle.std.proofs.Common.{◌∙◌, Some, ap, bytes_eq, cond, refl}
use Rattle.std.specs.BTreeMap.{get}
use Rattle.ic_pool.specs.Hash.{key_cmp}
use Rattle.ic_pool.proofs.FoundLemmas.{kept_at}
use Rattle.ic_pool.proofs.look_up.LookUp.keep.Goals as goal

pub returns-clause-ok : goal.returns-clause-ok
returns-clause-ok c = record {
  by_hash = λ hash. refl;
  by_key = λ other.
      kept_at c.args.self.now.by_key c.insert.new.self c.shrink.new.self (Some c.args.at) c.in_ok-insert.ensures.updates other
      ∙ ap (λ k. cond (bytes_eq k other) (Some c.args.at) (get key_cmp c.args.self.now.by_key other)) c.shrink.ensures;
}
