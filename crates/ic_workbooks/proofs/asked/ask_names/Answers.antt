use Rattle.std.proofs.Common.{◌≡◌, ◌∙◌, false, true, refl, sym}
use Rattle.ic_laws.specs.Name.{is_sheet_name}
use Rattle.ic_cells.specs.declared.sheet.Worksheet.{Worksheet}
use Rattle.ic_workbooks.proofs.AskedLemmas.{all_pass}
use Rattle.ic_workbooks.proofs.asked.ask_names.Goals as goal
use Rattle.ic_workbooks.proofs.asked.ask_names.Goals.{then-not-have_names-via-then-not-have_names, then-not-have_names-via-else-not-have_names+in_ok-has_apart_names+then-not-branch}
use Rattle.ic_laws.proofs.parsing.SoundRows.{all_hold as passes_all}

pub returns-then-not-have_names : goal.returns-then-not-have_names
returns-then-not-have_names c =
    elim c.then-not-have_names.branch [
      | then-not-have_names-via-then-not-have_names w ↦ (
        refl,
        λ h. let no : false ≡ true = sym w.if-not-have_names.true ∙ c.have_names.ensures ∙ passes_all (λ (x : Worksheet). is_sheet_name x.name) c.args.worksheets.now h.each in cc,
      )
      | then-not-have_names-via-else-not-have_names+in_ok-has_apart_names+then-not-branch w ↦ (
        refl,
        λ h. let no : false ≡ true = sym w.if-not-branch.true ∙ w.in_ok-has_apart_names.ensures.1 h.differ in cc,
      )
    ]

pub returns : goal.returns
returns c = record {
  each = all_pass (λ (x : Worksheet). is_sheet_name x.name) c.args.worksheets.now (sym c.have_names.ensures ∙ c.if-not-have_names.false);
  differ = c.in_ok-has_apart_names.ensures.0 c.if-not-branch.false;
}
