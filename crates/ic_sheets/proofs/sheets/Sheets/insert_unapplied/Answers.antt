use Rattle.std.proofs.Common.{Some, chars, refl}
use Rattle.ic_pool.proofs.ChangeLemmas.{naming_spares_found}
use Rattle.ic_sheets.proofs.OwnLemmas.{fresh_own, inserted_looks_up, inserted_made, own_fits_inserted}
use Rattle.ic_sheets.proofs.sheets.Sheets.insert_unapplied.Goals as goal

pub prepare_dangling-requires : goal.prepare_dangling-requires
prepare_dangling-requires g c = λ id. naming_spares_found (g.F.Finder.scene c.args.definitions.now) c.args.id (chars c.args.name.now) (Some id)

pub returns-clause-fits : goal.returns-clause-fits
returns-clause-fits g c =
    own_fits_inserted _ c.in_ok-prepared.prepared.items c.args.self.now c.in_ok-prepared.ensures c.args.index _ c.requires.fresh c.insert_leaving_formulas.new.self c.in_ok-insert_leaving_formulas.ensures.ok

pub returns-clause-made : goal.returns-clause-made
returns-clause-made g c =
    inserted_made _ c.in_ok-prepared.prepared.items c.args.self.now c.in_ok-prepared.ensures c.args.index _ c.requires.fresh c.insert_leaving_formulas.new.self c.in_ok-insert_leaving_formulas.ensures.ok

pub returns-clause-looks_up : goal.returns-clause-looks_up
returns-clause-looks_up g c =
    inserted_looks_up _ c.in_ok-prepared.prepared.items c.args.self.now c.in_ok-prepared.ensures c.args.index _ c.requires.fresh c.insert_leaving_formulas.new.self c.in_ok-insert_leaving_formulas.ensures.ok refl

pub returns-clause-own : goal.returns-clause-own
returns-clause-own g c = fresh_own _ c.in_ok-prepared.prepared.items c.args.self.now c.in_ok-prepared.ensures c.args.id c.requires.fresh
