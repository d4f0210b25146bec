use Rattle.std.proofs.Common.{Some, chars, sym, subst, ap, get_or, ◌∙◌}
use Rattle.ic_laws.specs.Changes.{sheet_named}
use Rattle.ic_pool.proofs.ChangeLemmas.{naming_spares_found}
use Rattle.ic_sheets.proofs.IndexLemmas.{read_boxed}
use Rattle.ic_sheets.proofs.OwnLemmas.{own_fits_called, renamed_looks_up, renamed_made}
use Rattle.ic_sheets.proofs.RewritingLemmas.{read_there}
use Rattle.ic_sheets.specs.Rewriting.{FitOwn, Makes}
use Rattle.ic_sheets.specs.declared.sheet.Sheet.{Sheet}
use Rattle.ic_sheets.proofs.KeptLemmas.{finds_same}
use Rattle.ic_sheets.proofs.OwnLemmas.{same_ids, same_names}
use Rattle.ic_sheets.proofs.SearchLemmas.{ids, names}
use Rattle.ic_sheets.proofs.sheets.Sheets.rename_sheet.Goals as goal

pub prepare_dangling-requires : goal.prepare_dangling-requires
prepare_dangling-requires g c = λ id. naming_spares_found (g.F.Finder.scene c.args.definitions.now) c.as_ref.result.now.id (chars c.args.name.now) (Some id)

pub apply-requires : goal.apply-requires
apply-requires g c =
    subst (FitOwn c.in_ok-prepared.prepared.items) (sym c.in_ok-rename_leaving_formulas.ensures.ok) (own_fits_called _ c.in_ok-prepared.prepared.items c.args.self.now c.in_ok-prepared.ensures c.args.index (chars c.args.name.now))

pub returns-clause-ok : goal.returns-clause-ok
returns-clause-ok g c = λ sheet at.
    renamed_made (sheet_named (g.F.Finder.scene c.args.definitions.now) sheet.id (chars c.args.name.now)) c.in_ok-prepared.prepared.items c.args.self.now
    (subst (λ (s : Sheet). Makes (sheet_named (g.F.Finder.scene c.args.definitions.now) s.id (chars c.args.name.now)) c.in_ok-prepared.prepared.items c.args.self.now)
    (read_there c.args.self.now c.args.index c.as_ref.result.now sheet c.requires.within ((read_boxed c.self.inside.list.items c.args.index c.as_ref.ensures c.index.ensures) ∙ ap (λ xs. get_or xs c.args.index c.as_ref.result.now) c.self.view_is) at) c.in_ok-prepared.ensures)
    c.args.index (chars c.args.name.now) c.rename_leaving_formulas.new.self c.apply.new.self c.in_ok-rename_leaving_formulas.ensures.ok c.apply.ensures

pub returns-clause-looks_up : goal.returns-clause-looks_up
returns-clause-looks_up g c = λ sheet at.
    renamed_looks_up (sheet_named (g.F.Finder.scene c.args.definitions.now) sheet.id (chars c.args.name.now)) c.in_ok-prepared.prepared.items c.args.self.now
    (subst (λ (s : Sheet). Makes (sheet_named (g.F.Finder.scene c.args.definitions.now) s.id (chars c.args.name.now)) c.in_ok-prepared.prepared.items c.args.self.now)
    (read_there c.args.self.now c.args.index c.as_ref.result.now sheet c.requires.within ((read_boxed c.self.inside.list.items c.args.index c.as_ref.ensures c.index.ensures) ∙ ap (λ xs. get_or xs c.args.index c.as_ref.result.now) c.self.view_is) at) c.in_ok-prepared.ensures)
    c.args.index (chars c.args.name.now) c.rename_leaving_formulas.new.self c.apply.new.self c.in_ok-rename_leaving_formulas.ensures.ok c.apply.ensures

pub returns-clause-finds : goal.returns-clause-finds
returns-clause-finds g c =
    finds_same c.rename_leaving_formulas.new.ids c.rename_leaving_formulas.new.self c.apply.new.self c.in_ok-rename_leaving_formulas.ensures.finds
    (ap names c.apply.ensures ∙ same_names c.in_ok-prepared.prepared.items c.rename_leaving_formulas.new.self) (ap ids c.apply.ensures ∙ same_ids c.in_ok-prepared.prepared.items c.rename_leaving_formulas.new.self)
