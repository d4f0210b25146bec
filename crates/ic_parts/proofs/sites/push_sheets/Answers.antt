use Rattle.std.proofs.Common.{◌++◌, ◌∙◌, ap, nat_eq, rules, arith, ℕ}
use Rattle.std.specs.List.{AllByRecursion, find}
use Rattle.std.specs.Prelude.{IfSome}
use Rattle.ic_laws.specs.Keeping.{changed_key}
use Rattle.ic_pool.specs.Rewrites.{RewritesState}
use Rattle.ic_sheets.specs.declared.sheet.Sheet.{Sheet}
use Rattle.ic_parts.proofs.SiteLemmas.{in_order, prepared_alike, prepared_at, prepared_done}
use Rattle.ic_parts.specs.Sites.{IsAlikeIn}
use Rattle.ic_parts.proofs.sites.push_sheets.Goals as goal

pub push_prepared-requires : goal.push_prepared-requires
push_prepared-requires c =
    prepared_at (λ (p : ℕ × RewritesState). IfSome (find (λ (s : Sheet). nat_eq s.id p.0) c.args.sheets.now) (λ (s : Sheet). AllByRecursion (IsAlikeIn s.pool.formulas) p.1.changes)) c.args.formulas.now c.loop-prepared.prepared-index c.prepared-item.result
    (prepared_alike c.args.formulas.now c.args.sheets.now c.requires.pools c.requires.ordered c.requires.apart) c.loop-prepared-test.true c.prepared-item.is

pub returns : goal.returns
returns c =
    let keys = changed_key c.args.change.now.old c.args.change.now.new in
    prepared_done keys c.args.formulas.now c.args.sheets.now c.loop-prepared.prepared-index c.loop-prepared.sites.items _ (search (rules, arith)) c.loop-prepared.invariant
    ∙ ap (λ xs. c.args.sites.now.items ++ xs) (in_order keys c.args.formulas.now c.args.sheets.now c.requires.ordered c.requires.apart)
