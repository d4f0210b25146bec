use Rattle.std.proofs.Common.{ap, sym, ◌∙◌, Option, Some, ℕ}
use Rattle.ic_laws.specs.Scene.{same_scope}
use Rattle.ic_pool.proofs.ChangeLemmas.{adding_spares_found}
use Rattle.ic_sheets.proofs.sheets.Sheets.prepare_added.Goals as goal

pub prepare_dangling-requires : goal.prepare_dangling-requires
prepare_dangling-requires c = λ id. adding_spares_found c.args.added.now id (ap (λ (s : Option ℕ). same_scope s (Some id)) (sym c.scope.ensures ∙ c.in-None.is))

pub prepare_beside-requires : goal.prepare_beside-requires
prepare_beside-requires c = λ id e. adding_spares_found c.args.added.now id (ap (λ (s : Option ℕ). same_scope s (Some id)) (sym c.scope.ensures ∙ c.in-Some.is) ∙ e)
