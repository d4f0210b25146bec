use Rattle.std.proofs.Common.{ℕ, [], ◌∷◌, chars, subst, sym}
use Rattle.ic_laws.specs.Changes.{sheet_gone}
use Rattle.ic_pool.specs.Topics.{SparesOthers}
use Rattle.ic_pool.proofs.ChangeTopics.{going_spares}
use Rattle.ic_pool.proofs.changes.sheets.SheetGoneBookChange.topic.Goals as goal

pub returns : goal.returns
returns g c =
    let gone = c.args.self.now in
    let change = sheet_gone (g.F.Finder.scene gone.definitions.now) gone.id (chars gone.name.now) in
    subst (λ (t : ℕ). SparesOthers change (t ∷ [])) (sym c.sheet_topic.ensures) (going_spares (g.F.Finder.scene gone.definitions.now) gone.id (chars gone.name.now))
