use Rattle.std.proofs.Common.{◌∙◌, ap, length, option_map, subst, sym}
use Rattle.ic_sheets.specs.Search.{index_with_id}
use Rattle.ic_sheets.specs.Spots.{Rise, index_at, lowered, renumbered}
use Rattle.ic_sheets.proofs.PlaceLemmas.{lowered_back, lowered_renumbered}
use Rattle.ic_sheets.proofs.SpotLemmas.{changed_found, changed_rise}
use Rattle.ic_sheets.proofs.sheets.spots.Spots.lower.Goals as goal

pub invariant_of-self : goal.invariant_of-self
invariant_of-self c = record { rise = subst (Rise 0) (sym c.lower_all.ensures) (changed_rise (lowered c.args.index) c.args.self.now.list.items 0 c.args.self.now.rise) }

pub returns-then-end-index : goal.returns-then-end-index
returns-then-end-index c = λ id.
    let sheets = c.args.sheets.now in
    c.renumber.ensures id ∙ ap (renumbered c.args.index (length sheets) (index_with_id id sheets)) (c.requires.before id)
    ∙ lowered_renumbered c.args.index sheets id

pub returns-else-end-index : goal.returns-else-end-index
returns-else-end-index c = λ id.
    ap (index_at id) c.lower_all.ensures ∙ changed_found (lowered c.args.index) c.args.self.now.list.items id
    ∙ ap (option_map (lowered c.args.index)) (c.requires.before id) ∙ lowered_back c.args.index (index_with_id id c.args.sheets.now)
