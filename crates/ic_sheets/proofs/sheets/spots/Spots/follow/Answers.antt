use Rattle.std.proofs.Common.{◌∙◌, ap, option_map, subst, sym}
use Rattle.ic_sheets.specs.Search.{index_with_id}
use Rattle.ic_sheets.specs.Spots.{Rise, index_at, moved_index}
use Rattle.ic_sheets.proofs.PlaceLemmas.{moved_back}
use Rattle.ic_sheets.proofs.SpotLemmas.{changed_found, changed_rise}
use Rattle.ic_sheets.proofs.sheets.spots.Spots.follow.Goals as goal

pub invariant_of-self : goal.invariant_of-self
invariant_of-self c = record { rise = subst (Rise 0) (sym c.move_all.ensures) (changed_rise (moved_index c.args.from c.args.to) c.args.self.now.list.items 0 c.args.self.now.rise) }

pub returns-else-end-first : goal.returns-else-end-first
returns-else-end-first c = λ id.
    ap (index_at id) c.move_all.ensures ∙ changed_found (moved_index c.args.from c.args.to) c.args.self.now.list.items id
    ∙ ap (option_map (moved_index c.args.from c.args.to)) (c.requires.before id) ∙ moved_back c.args.from c.args.to (index_with_id id c.args.sheets.now)
