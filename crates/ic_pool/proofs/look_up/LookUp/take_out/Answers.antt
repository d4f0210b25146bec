use Rattle.std.proofs.Common.{◌∙◌, None, ap, cond, sym, bytes_eq}
use Rattle.std.specs.Prelude.{nat_eq}
use Rattle.std.specs.BTreeMap.{get}
use Rattle.std.specs.Ordering.{nat_cmp}
use Rattle.ic_pool.specs.Hash.{key_cmp}
use Rattle.ic_pool.specs.LookUp.{apart_from}
use Rattle.ic_pool.specs.declared.look_up.LookUp.{LookUp}
use Rattle.ic_pool.proofs.FoundLemmas.{kept_at, not_out_at, out_at}
use Rattle.ic_pool.proofs.look_up.LookUp.take_out.Goals as goal
use Rattle.ic_pool.proofs.look_up.LookUp.take_out.Goals.{then-stands_at, else-stands_at}

pub returns : goal.returns
returns c = elim c.if-stands_at.branch [
  | then-stands_at w ↦ record {
    by_hash = λ hash.
        ap (λ (l : LookUp). get nat_cmp l.by_hash hash) w.self-is
        ∙ out_at c.args.self.now.by_hash w.remove.new.self c.hash-hash.result c.args.at (sym c.stands_at.ensures ∙ w.if-stands_at.true) w.remove.ensures.updates hash
        ∙ ap (λ n. cond (nat_eq n hash) (apart_from c.args.at (get nat_cmp c.args.self.now.by_hash hash)) (get nat_cmp c.args.self.now.by_hash hash)) c.hash-hash.ensures;
    by_key = λ key.
        kept_at c.if-stands_at.self.by_key c.remove-2.new.self c.args.key.now None c.remove-2.ensures.updates key
        ∙ ap (λ (l : LookUp). cond (bytes_eq c.args.key.now key) None (get key_cmp l.by_key key)) w.self-is;
  }
  | else-stands_at w ↦ record {
    by_hash = λ hash.
        ap (λ (l : LookUp). get nat_cmp l.by_hash hash) w.self-is
        ∙ not_out_at c.args.self.now.by_hash c.hash-hash.result c.args.at (sym c.stands_at.ensures ∙ w.if-stands_at.false) hash
        ∙ ap (λ n. cond (nat_eq n hash) (apart_from c.args.at (get nat_cmp c.args.self.now.by_hash hash)) (get nat_cmp c.args.self.now.by_hash hash)) c.hash-hash.ensures;
    by_key = λ key.
        kept_at c.if-stands_at.self.by_key c.remove-2.new.self c.args.key.now None c.remove-2.ensures.updates key
        ∙ ap (λ (l : LookUp). cond (bytes_eq c.args.key.now key) None (get key_cmp l.by_key key)) w.self-is;
  }
]
