use Rattle.std.proofs.Common.{chars, ap, Some, sym, ◌∙◌}
use Rattle.std.proofs.lemmas.Result.{IfOk-weaker}
use Rattle.ic_audit.proofs.AskedLemmas.{no_sheet, sheet_found}
use Rattle.ic_audit.proofs.desk.sites_of_sheet.Goals as goal

pub returns-in-Some-clause-sites : goal.returns-in-Some-clause-sites
returns-in-Some-clause-sites c =
    IfOk-weaker c.mentions_of_sheet.result _ _ (λ sites its. sheet_found c.args.model.now.book (chars c.args.name.now) c.in-Some.index (sym c.index_of_sheet.ensures ∙ c.in-Some.is) ∙ ap (λ xs. Some xs) (sym its)) c.mentions_of_sheet.ensures.sites

pub returns-in-None-clause-none : goal.returns-in-None-clause-none
returns-in-None-clause-none c = λ other. no_sheet c.args.model.now.book (chars c.args.name.now) (sym c.index_of_sheet.ensures ∙ c.in-None.is)
