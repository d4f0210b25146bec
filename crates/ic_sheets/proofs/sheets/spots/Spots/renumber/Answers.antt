use Rattle.std.proofs.Common.{◌≡◌, ◌<◌, ◌∙◌, ap, arith, length, nat_eq}
use Rattle.ic_sheets.specs.Search.{index_with_id}
use Rattle.ic_sheets.specs.Spots.{index_at, renumbered}
use Rattle.ic_sheets.proofs.IndexLemmas.{read_boxed}
use Rattle.ic_sheets.proofs.PlaceLemmas.{next_renumbered, none_renumbered}
use Rattle.ic_sheets.proofs.SpotLemmas.{replaced}
use Rattle.ic_sheets.proofs.sheets.spots.Spots.renumber.Goals as goal

pub loop-index-init : goal.loop-index-init
loop-index-init c = λ q. none_renumbered c.args.from (index_with_id q c.args.sheets.now) (index_at q c.args.self.now.list.items)

pub loop-index-preserved : goal.loop-index-preserved
loop-index-preserved c = λ q.
    let sheets = c.args.sheets.now in
    let at = c.loop-index.index in
    let s = c.as_ref.result.now in
    let lt : at < length sheets = omega arith in
    let read = read_boxed sheets at c.as_ref.ensures c.index-sheets-index.is in
    c.replace.ensures q ∙ ap (replaced (nat_eq s.id q) at) (c.loop-index.invariant q)
    ∙ next_renumbered sheets at s c.requires.differ lt read c.args.from q (index_at q c.args.self.now.list.items) c.loop-index.auto.index

pub returns : goal.returns
returns c = λ q.
    let end : c.loop-index.index ≡ c.args.to = omega arith in
    c.loop-index.invariant q ∙ ap (λ n. renumbered c.args.from n (index_with_id q c.args.sheets.now) (index_at q c.args.self.now.list.items)) end
