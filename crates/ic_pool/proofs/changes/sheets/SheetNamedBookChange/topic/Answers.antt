use Rattle.std.proofs.Common.{ℕ, [], ◌∷◌, chars, subst, sym}
use Rattle.ic_laws.specs.Changes.{sheet_named}
use Rattle.ic_pool.specs.Topics.{SparesOthers}
use Rattle.ic_pool.proofs.ChangeTopics.{naming_spares}
use Rattle.ic_pool.proofs.changes.sheets.SheetNamedBookChange.topic.Goals as goal

pub returns : goal.returns
returns g c =
    let named = c.args.self.now in
    let change = sheet_named (g.F.Finder.scene named.definitions.now) named.id (chars named.name.now) in
    subst (λ (t : ℕ). SparesOthers change (t ∷ [])) (sym c.name_topic.ensures) (naming_spares (g.F.Finder.scene named.definitions.now) named.id (chars named.name.now))
